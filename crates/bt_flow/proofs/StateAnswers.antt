-- What reading a state answers, from what is read of its lines.
use Rattle.std.proofs.Common.{◌≡◌, ℕ, List, [], ◌∷◌, ◌++◌, length, Bool, refl, sym, subst, codes, inl, inr, Result, Ok, Err}
use Rattle.bt_text.specs.Answers.{Answers, HasOneAnswer}
use Rattle.bt_text.proofs.OneAnswer.{answers_of}
use Rattle.bt_frac.specs.Ratio.{Ratio}
use Rattle.bt_net.specs.Network.{Network}
use Rattle.bt_flow.specs.declared.property.Property.{Property}
use Rattle.bt_flow.specs.declared.fault.StateFault.{StateFault}
use Rattle.bt_flow.specs.declared.fault.StateFault.TheVariants.{CertLine, Memory}
use Rattle.bt_flow.specs.declared.reading.line.TheConstants.{TITLE, FLOWS, END}
use Rattle.bt_flow.specs.States.{Fractions}
use Rattle.bt_flow.specs.Names.{property_name}
use Rattle.bt_flow.specs.StateLines.{Form, just, numbers, marks, forms, IsWrongLine}
use Rattle.bt_flow.specs.StateReading.{IsStateRead}
use Rattle.bt_flow.specs.Parts.{IsFault, IsEnds, StopsInEnds, IsEdges, StopsInEdges, Closes, StopsAtEnd}
use Rattle.bt_flow.specs.inner.Lines.{IsLineFault, IsTitled, StopsAtTitle}
use Rattle.bt_flow.proofs.StateTexts.{one_state_read, found_text}
use Rattle.bt_flow.proofs.WrongLines.{Reaches, reach_first, reach_ends, reach_edges, stop_first, stop_in_two, stop_end}

-- a refusal whose cause makes its line wrong is the right answer, or want of memory
pub refusal : {V : Type 0} (IsRight : Result V StateFault → Type 0) → HasOneAnswer IsRight → (Cause : ℕ → Type 0) → ((line : ℕ) → Cause line → IsRight (Err (CertLine line)))
    → (fault : StateFault) → IsFault Cause fault → Answers Memory IsRight (Err fault)
refusal IsRight one Cause wrong (CertLine line) h = answers_of Memory IsRight one (Err (CertLine line)) (inl (wrong line h))
refusal IsRight one Cause wrong Memory h = answers_of Memory IsRight one (Err Memory) (inr refl)

-- the forms after the second, fourth and last line
abbrev edge_forms : Network → List Form
edge_forms n = numbers (codes "flow") (length n.edges) ∷ marks (length n.edges) ∷ just (codes "end") ∷ []

abbrev end_forms : Network → List Form
end_forms n = numbers (codes "load") n.inputs ∷ numbers (codes "room") n.outputs ∷ edge_forms n

-- the first line
abbrev title : Property → List ℕ
title p = codes "no " ++ property_name p

module _ (n : Network) (p : Property) (bytes : List ℕ) where
  refused : (Cause : ℕ → Type 0) → ((line : ℕ) → Cause line → IsWrongLine n p bytes line) → (fault : StateFault) → IsFault Cause fault
      → Answers Memory (IsStateRead n p bytes) (Err fault)
  refused Cause wrong fault h = refusal (IsStateRead n p bytes) (one_state_read n p bytes) Cause wrong fault h

  after_title : (rest : List ℕ) → IsTitled (title p) bytes rest → Reaches (forms n p) bytes (end_forms n) 1 rest
  after_title rest h = reach_first (forms n p) bytes (just (title p)) (end_forms n) h.title rest refl h.cuts h.is_title

  after_ends : (text rest : List ℕ) (loads rooms : List Ratio) → IsTitled (title p) bytes text → IsEnds n text loads rooms rest → Reaches (forms n p) bytes (edge_forms n) 3 rest
  after_ends text rest loads rooms h k = reach_ends (forms n p) bytes n (edge_forms n) 1 text rest loads rooms (after_title text h) k

  after_edges : (text next rest : List ℕ) (loads rooms flows : List Ratio) (backed : List Bool) → IsTitled (title p) bytes text → IsEnds n text loads rooms next
      → IsEdges n next flows backed rest → Reaches (forms n p) bytes (just (codes "end") ∷ []) 5 rest
  after_edges text next rest loads rooms flows backed h k l =
      reach_edges (forms n p) bytes n (just (codes "end") ∷ []) 3 next rest flows backed (after_ends text next loads rooms h k) l

  pub refused_title : (fault : StateFault) → IsLineFault TITLE (StopsAtTitle (title p) bytes) fault → Answers Memory (IsStateRead n p bytes) (Err fault)
  refused_title fault h =
      refused (λ line. (line ≡ TITLE) × StopsAtTitle (title p) bytes)
      (λ line (is, stops).
      subst (λ k. IsWrongLine n p bytes k) (sym is) (stop_first (forms n p) bytes (just (title p)) (end_forms n) stops.title stops.rest refl stops.cuts stops.other))
      fault h

  pub refused_ends : (text : List ℕ) (fault : StateFault) → IsTitled (title p) bytes text → IsFault (StopsInEnds n text) fault → Answers Memory (IsStateRead n p bytes) (Err fault)
  refused_ends text fault h stops =
      refused (StopsInEnds n text)
      (λ line. stop_in_two (forms n p) bytes (numbers (codes "load") n.inputs) (numbers (codes "room") n.outputs) (edge_forms n) 1 text line (after_title text h)) fault stops

  pub refused_edges : (text next : List ℕ) (loads rooms : List Ratio) (fault : StateFault) → IsTitled (title p) bytes text → IsEnds n text loads rooms next
      → IsFault (StopsInEdges n FLOWS next) fault → Answers Memory (IsStateRead n p bytes) (Err fault)
  refused_edges text next loads rooms fault h k stops =
      refused (StopsInEdges n FLOWS next)
      (λ line. stop_in_two (forms n p) bytes (numbers (codes "flow") (length n.edges)) (marks (length n.edges)) (just (codes "end") ∷ []) 3 next line (after_ends text next loads rooms h k))
      fault stops

  pub refused_end : (text next last : List ℕ) (loads rooms flows : List Ratio) (backed : List Bool) (fault : StateFault) → IsTitled (title p) bytes text → IsEnds n text loads rooms next
      → IsEdges n next flows backed last → IsFault (StopsAtEnd END last) fault → Answers Memory (IsStateRead n p bytes) (Err fault)
  refused_end text next last loads rooms flows backed fault h k l stops =
      refused (StopsAtEnd END last) (λ line. stop_end (forms n p) bytes 5 last line (after_edges text next last loads rooms flows backed h k l)) fault stops

  pub read_answer : (text next last : List ℕ) (t : Fractions) → IsTitled (title p) bytes text → IsEnds n text t.loads t.rooms next → IsEdges n next t.flows t.backed last → Closes last
      → Answers Memory (IsStateRead n p bytes) (Ok t)
  read_answer text next last t h k l close =
      answers_of Memory (IsStateRead n p bytes) (one_state_read n p bytes) (Ok t) (
        record {
          flows = l.flow_line.right.spells.counted;
          backed = l.mark_line.right.spells.counted;
          loads = k.load_line.right.spells.counted;
          rooms = k.room_line.right.spells.counted;
        },
        found_text p t bytes h.title k.load_line.line k.room_line.line l.flow_line.line l.mark_line.line close.ends.line text k.middle next l.middle last close.rest n.inputs n.outputs (length n.edges)
            h.cuts h.is_title k.load_line.leads k.load_line.right k.room_line.leads k.room_line.right l.flow_line.leads l.flow_line.right l.mark_line.leads l.mark_line.right
            close.ends.leads close.ends.right close.blanks,
      )
