-- What reading a pair answers, from what is read of its lines.
use Rattle.std.proofs.Common.{◌≡◌, ℕ, List, [], ◌∷◌, ◌++◌, length, map, Bool, refl, sym, ◌∙◌, ap, subst, codes, Ok, Err}
use Rattle.bt_text.specs.Answers.{Answers}
use Rattle.bt_text.proofs.OneAnswer.{answers_of}
use Rattle.std.specs.Bool.{⊤}
use Rattle.bt_frac.specs.Ratio.{Ratio, IsLowest}
use Rattle.bt_frac.specs.Texts.{frac_text}
use Rattle.bt_net.specs.Network.{Network}
use Rattle.bt_flow.specs.declared.fault.StateFault.{StateFault}
use Rattle.bt_flow.specs.declared.fault.StateFault.TheVariants.{Memory}
use Rattle.bt_flow.specs.States.{Fits}
use Rattle.bt_flow.specs.StateText.{mark_text, spaced}
use Rattle.bt_flow.specs.StateLines.{Form, just, numbers, marks, SpellsItems, Follows, IsFirstWrongLine}
use Rattle.bt_flow.specs.Parts.{IsFault, IsEnds, StopsInEnds, IsEdges, StopsInEdges, Closes, StopsAtEnd}
use Rattle.bt_flow.specs.inner.Lines.{IsLineFault, IsTitled, StopsAtTitle}
use Rattle.bt_flow.proofs.StateAnswers.{refusal}
use Rattle.bt_flow.proofs.WrongLines.{Reaches, reach_first, reach_ends, reach_edges, stop_first, stop_in_two, stop_end}
use Rattle.bt_same.specs.declared.pair.Pair.{Pair}
use Rattle.bt_same.specs.declared.reading.TheConstants.{TITLE, FIRST_FLOWS, SECOND_FLOWS, END}
use Rattle.bt_same.specs.Sameness.{HaveEqualEnds}
use Rattle.bt_same.specs.PairText.{pair_lines, IsPairText}
use Rattle.bt_same.specs.PairReading.{pair_forms, IsPairRead}
use Rattle.bt_same.specs.inner.Parts.{pair_from}
use Rattle.bt_same.proofs.PairTexts.{one_pair_read, found_pair}

-- a line that begins with a word and spells a list
line_is : {A : Type 0} (CanStand : A → Type 0) (word : A → List ℕ) (name line : List ℕ) (count : ℕ) (items : List A) → Follows name line (SpellsItems CanStand word count) items
    → line ≡ name ++ spaced (map word items)
line_is CanStand word name line count items follows = follows.line_is ∙ ap (λ t. name ++ t) follows.spells.text_is

eight_same : (l1 l2 l3 l4 l5 l6 l7 l8 m1 m2 m3 m4 m5 m6 m7 m8 : List ℕ) → l1 ≡ m1 → l2 ≡ m2 → l3 ≡ m3 → l4 ≡ m4 → l5 ≡ m5 → l6 ≡ m6 → l7 ≡ m7 → l8 ≡ m8
    → l1 ∷ l2 ∷ l3 ∷ l4 ∷ l5 ∷ l6 ∷ l7 ∷ l8 ∷ [] ≡ m1 ∷ m2 ∷ m3 ∷ m4 ∷ m5 ∷ m6 ∷ m7 ∷ m8 ∷ []
eight_same l1 l2 l3 l4 l5 l6 l7 l8 m1 m2 m3 m4 m5 m6 m7 m8 e1 e2 e3 e4 e5 e6 e7 e8 = rw (e1, e2, e3, e4, e5, e6, e7, e8) refl

module _ (a b : Network) (bytes : List ℕ) where
  -- the forms that are left after the first, third, fifth and seventh line
  abbrev last_form : List Form
  last_form = just (codes "end") ∷ []

  abbrev second_forms : List Form
  second_forms = numbers (codes "flow") (length b.edges) ∷ marks (length b.edges) ∷ last_form

  abbrev first_forms : List Form
  first_forms = numbers (codes "flow") (length a.edges) ∷ marks (length a.edges) ∷ second_forms

  abbrev end_forms : List Form
  end_forms = numbers (codes "load") a.inputs ∷ numbers (codes "room") a.outputs ∷ first_forms

  abbrev After : List Form → ℕ → List ℕ → Type 0
  After left done text = Reaches (pair_forms a b) bytes left done text

  refused : (Cause : ℕ → Type 0) → ((line : ℕ) → Cause line → IsFirstWrongLine (pair_forms a b) bytes line) → (fault : StateFault) → IsFault Cause fault
      → Answers Memory (IsPairRead a b bytes) (Err fault)
  refused Cause wrong fault h = refusal (IsPairRead a b bytes) (one_pair_read a b bytes) Cause wrong fault h

  pub no_memory : Answers Memory (IsPairRead a b bytes) (Err Memory)
  no_memory = refused (λ line. ⊥) (λ line h. absurd h) Memory tt

  pub refused_title : (fault : StateFault) → IsLineFault TITLE (StopsAtTitle (codes "differ") bytes) fault → Answers Memory (IsPairRead a b bytes) (Err fault)
  refused_title fault h =
      refused (λ line. (line ≡ TITLE) × StopsAtTitle (codes "differ") bytes)
      (λ line (is, stops).
      subst (λ k. IsFirstWrongLine (pair_forms a b) bytes k) (sym is) (stop_first (pair_forms a b) bytes (just (codes "differ")) end_forms stops.title stops.rest refl stops.cuts stops.other))
      fault h

  module _ (t0 : List ℕ) (titled : IsTitled (codes "differ") bytes t0) where
    after_title : After end_forms 1 t0
    after_title = reach_first (pair_forms a b) bytes (just (codes "differ")) end_forms titled.title t0 refl titled.cuts titled.is_title

    pub refused_ends : (fault : StateFault) → IsFault (StopsInEnds a t0) fault → Answers Memory (IsPairRead a b bytes) (Err fault)
    refused_ends fault stops =
        refused (StopsInEnds a t0)
        (λ line. stop_in_two (pair_forms a b) bytes (numbers (codes "load") a.inputs) (numbers (codes "room") a.outputs) first_forms 1 t0 line after_title) fault stops

    module _ (loads rooms : List Ratio) (t1 : List ℕ) (ends : IsEnds a t0 loads rooms t1) where
      after_ends : After first_forms 3 t1
      after_ends = reach_ends (pair_forms a b) bytes a first_forms 1 t0 t1 loads rooms after_title ends

      pub refused_first : (fault : StateFault) → IsFault (StopsInEdges a FIRST_FLOWS t1) fault → Answers Memory (IsPairRead a b bytes) (Err fault)
      refused_first fault stops =
          refused (StopsInEdges a FIRST_FLOWS t1)
          (λ line. stop_in_two (pair_forms a b) bytes (numbers (codes "flow") (length a.edges)) (marks (length a.edges)) second_forms 3 t1 line after_ends) fault stops

      module _ (flows : List Ratio) (backed : List Bool) (t2 : List ℕ) (first : IsEdges a t1 flows backed t2) where
        after_first : After second_forms 5 t2
        after_first = reach_edges (pair_forms a b) bytes a second_forms 3 t1 t2 flows backed after_ends first

        pub refused_second : (fault : StateFault) → IsFault (StopsInEdges b SECOND_FLOWS t2) fault → Answers Memory (IsPairRead a b bytes) (Err fault)
        refused_second fault stops =
            refused (StopsInEdges b SECOND_FLOWS t2)
            (λ line. stop_in_two (pair_forms a b) bytes (numbers (codes "flow") (length b.edges)) (marks (length b.edges)) last_form 5 t2 line after_first) fault stops

        module _ (flows' : List Ratio) (backed' : List Bool) (t3 : List ℕ) (second : IsEdges b t2 flows' backed' t3) where
          after_second : After last_form 7 t3
          after_second = reach_edges (pair_forms a b) bytes b last_form 5 t2 t3 flows' backed' after_first second

          pub refused_end : (fault : StateFault) → IsFault (StopsAtEnd END t3) fault → Answers Memory (IsPairRead a b bytes) (Err fault)
          refused_end fault stops = refused (StopsAtEnd END t3) (λ line. stop_end (pair_forms a b) bytes 7 t3 line after_second) fault stops

          abbrev pair : Pair
          pair = pair_from loads rooms flows backed flows' backed'

          pub read_answer : HaveEqualEnds a b → Closes t3 → Answers Memory (IsPairRead a b bytes) (Ok (pair_from loads rooms flows backed flows' backed'))
          read_answer equal close = answers_of Memory (IsPairRead a b bytes) (one_pair_read a b bytes) (Ok pair) (fits, fits', text)
            where
              fits : Fits a pair.first
              fits = record { flows = first.flow_line.right.spells.counted; backed = first.mark_line.right.spells.counted; loads = ends.load_line.right.spells.counted; rooms = ends.room_line.right.spells.counted }

              fits' : Fits b pair.second
              fits' = record {
                flows = second.flow_line.right.spells.counted;
                backed = second.mark_line.right.spells.counted;
                loads = ends.load_line.right.spells.counted ∙ equal.inputs;
                rooms = ends.room_line.right.spells.counted ∙ equal.outputs;
              }

              are : titled.title ∷ ends.load_line.line ∷ ends.room_line.line ∷ first.flow_line.line ∷ first.mark_line.line ∷ second.flow_line.line ∷ second.mark_line.line ∷ close.ends.line ∷ []
                  ≡ pair_lines pair
              are =
                  eight_same _ _ _ _ _ _ _ _ _ _ _ _ _ _ _ _ titled.is_title (line_is IsLowest frac_text (codes "load") ends.load_line.line a.inputs loads ends.load_line.right)
                  (line_is IsLowest frac_text (codes "room") ends.room_line.line a.outputs rooms ends.room_line.right)
                  (line_is IsLowest frac_text (codes "flow") first.flow_line.line (length a.edges) flows first.flow_line.right)
                  (line_is (λ _. ⊤) mark_text (codes "mark") first.mark_line.line (length a.edges) backed first.mark_line.right)
                  (line_is IsLowest frac_text (codes "flow") second.flow_line.line (length b.edges) flows' second.flow_line.right)
                  (line_is (λ _. ⊤) mark_text (codes "mark") second.mark_line.line (length b.edges) backed' second.mark_line.right) close.ends.right

              text : IsPairText pair bytes
              text =
                  found_pair pair bytes titled.title ends.load_line.line ends.room_line.line first.flow_line.line first.mark_line.line second.flow_line.line second.mark_line.line close.ends.line
                  t0 ends.middle t1 first.middle t2 second.middle t3 close.rest titled.cuts ends.load_line.leads ends.room_line.leads first.flow_line.leads first.mark_line.leads
                  second.flow_line.leads second.mark_line.leads close.ends.leads are
                  (record { flows = first.flow_line.right.spells.meets; loads = ends.load_line.right.spells.meets; rooms = ends.room_line.right.spells.meets })
                  (record { flows = second.flow_line.right.spells.meets; loads = ends.load_line.right.spells.meets; rooms = ends.room_line.right.spells.meets }) (refl, refl) close.blanks
