-- The text of a state: its lines, that every line of it is right, and that it has one state.
use Rattle.std.proofs.Common.{◌≡◌, ℕ, Bool, List, [], ◌∷◌, ◌++◌, length, map, refl, sym, ◌∙◌, ap, subst, inl, inr, arith, append_assoc, append-nil, codes, Ok, Err}
use Rattle.std.specs.List.{All, slice_index_or}
use Rattle.std.proofs.lemmas.List.Elements.{All-tail}
use Rattle.bt_text.specs.Blanks.{IsBlank}
use Rattle.bt_text.specs.Lines.{Lacks, line}
use Rattle.bt_frac.specs.Ratio.{Ratio, IsLowest}
use Rattle.bt_frac.specs.Texts.{frac_text}
use Rattle.bt_net.specs.Network.{Network}
use Rattle.bt_flow.specs.declared.property.Property.{Property}
use Rattle.bt_flow.specs.declared.property.Property.TheVariants.{Balanced, DrawnEvenly, Unlimited, Full, Fair, DrawnFairly}
use Rattle.bt_flow.specs.States.{Fractions, Fits}
use Rattle.bt_text.specs.Pieces.{CutsAt, LeadsTo}
use Rattle.bt_flow.specs.Names.{property_name}
use Rattle.bt_flow.specs.StateText.{mark_text, spaced, state_text, IsStateText}
use Rattle.bt_flow.specs.StateLines.{SpellsFractions, SpellsMarks, Follows, just, numbers, marks, forms, lines_of, IsWrongLine}
use Rattle.bt_text.specs.Answers.{HasOneAnswer}
use Rattle.bt_flow.specs.declared.fault.StateFault.TheVariants.{CertLine, Memory}
use Rattle.bt_flow.specs.StateReading.{IsStateRead}
use Rattle.bt_text.proofs.Lacking.{lacks}
use Rattle.bt_flow.proofs.LineTexts.{first_line, numbers_lack, marks_lack, numbers_filled, marks_filled, same_numbers, same_marks}
use Rattle.bt_flow.proofs.WrongLines.{lines_after, cut_lines, AreRight, all_later, blank_right, one_wrong, right_none_wrong}

-- six lines, the last without its line feed, and the rest
regrouped : (a b c d e f rest : List ℕ) → line a ++ line b ++ line c ++ line d ++ line e ++ f ++ rest
    ≡ a ++ 10 ∷ (b ++ 10 ∷ (c ++ 10 ∷ (d ++ 10 ∷ (e ++ 10 ∷ (f ++ rest)))))
regrouped a b c d e f rest = simp append_assoc

-- bytes that were cut into six lines
pub joined : (bytes a b c d e f r1 r2 r3 r4 r5 r6 : List ℕ) → bytes ≡ a ++ r1 → r1 ≡ 10 ∷ (b ++ r2) → r2 ≡ 10 ∷ (c ++ r3) → r3 ≡ 10 ∷ (d ++ r4)
    → r4 ≡ 10 ∷ (e ++ r5) → r5 ≡ 10 ∷ (f ++ r6) → bytes ≡ line a ++ line b ++ line c ++ line d ++ line e ++ f ++ r6
joined bytes a b c d e f r1 r2 r3 r4 r5 r6 e1 e2 e3 e4 e5 e6 =
    e1 ∙ ap (λ r. a ++ r) (e2 ∙ ap (λ r. 10 ∷ (b ++ r)) (e3 ∙ ap (λ r. 10 ∷ (c ++ r)) (e4 ∙ ap (λ r. 10 ∷ (d ++ r)) (e5 ∙ ap (λ r. 10 ∷ (e ++ r)) e6))))
    ∙ sym (regrouped a b c d e f r6)

title_lacks : (p : Property) → Lacks 10 (codes "no " ++ property_name p)
title_lacks Balanced = lacks 10 (codes "no balanced") refl
title_lacks DrawnEvenly = lacks 10 (codes "no drawn-evenly") refl
title_lacks Unlimited = lacks 10 (codes "no unlimited") refl
title_lacks Full = lacks 10 (codes "no full") refl
title_lacks Fair = lacks 10 (codes "no fair") refl
title_lacks DrawnFairly = lacks 10 (codes "no drawn-fairly") refl

-- six lines without line feeds, and the rest
six_lines : (a b c d e f rest : List ℕ) (tail : List (List ℕ)) → Lacks 10 a → Lacks 10 b → Lacks 10 c → Lacks 10 d → Lacks 10 e
    → lines_of (f ++ rest) ≡ f ∷ tail
    → lines_of (line a ++ line b ++ line c ++ line d ++ line e ++ f ++ rest) ≡ a ∷ b ∷ c ∷ d ∷ e ∷ f ∷ tail
six_lines a b c d e f rest tail la lb lc ld le last =
    ap lines_of (regrouped a b c d e f rest) ∙ first_line a (b ++ 10 ∷ (c ++ 10 ∷ (d ++ 10 ∷ (e ++ 10 ∷ (f ++ rest))))) la
    ∙ ap (λ ls. a ∷ ls)
    (first_line b (c ++ 10 ∷ (d ++ 10 ∷ (e ++ 10 ∷ (f ++ rest)))) lb
    ∙ ap (λ ls. b ∷ ls)
    (first_line c (d ++ 10 ∷ (e ++ 10 ∷ (f ++ rest))) lc
    ∙ ap (λ ls. c ∷ ls) (first_line d (e ++ 10 ∷ (f ++ rest)) ld ∙ ap (λ ls. d ∷ ls) (first_line e (f ++ rest) le ∙ ap (λ ls. e ∷ ls) last))))

title : Property → List ℕ
title p = codes "no " ++ property_name p

fraction_line : List ℕ → List Ratio → List ℕ
fraction_line word fractions = word ++ spaced (map frac_text fractions)

mark_line : List Bool → List ℕ
mark_line backed = codes "mark" ++ spaced (map mark_text backed)

fraction_line_lacks : (word : List ℕ) (fractions : List Ratio) → Lacks 10 word → All IsLowest fractions → Lacks 10 (fraction_line word fractions)
unfolding fraction_line
fraction_line_lacks word fractions lacks lowest = numbers_lack word fractions lacks lowest

mark_line_lacks : (backed : List Bool) → Lacks 10 (mark_line backed)
unfolding mark_line
mark_line_lacks backed = marks_lack backed

-- the lines of a state's text
record HasLines (p : Property) (t : Fractions) (bytes : List ℕ) : Type 0 where
  rest : List (List ℕ)
  lines : lines_of bytes
      ≡ title p ∷ fraction_line (codes "load") t.loads ∷ fraction_line (codes "room") t.rooms
      ∷ fraction_line (codes "flow") t.flows ∷ mark_line t.backed ∷ codes "end" ∷ rest
  blank : AreRight [] rest

has_lines : (p : Property) (t : Fractions) (bytes : List ℕ) → IsStateText p t bytes → HasLines p t bytes
unfolding title fraction_line mark_line lines_after
has_lines p t bytes h =
    elim h.text [
      | inl ends ↦ record {
        rest = [];
        lines = ap lines_of (ends ∙ sym (append-nil (state_text p t))) ∙ six [] [] (cut_lines (codes "end" ++ []) (codes "end") [] (record { lacks = lacks 10 (codes "end") refl; text_is = refl; begins = inl refl }));
        blank = record { at = λ k. omega arith };
      }
      | inr more ↦ record {
        rest = lines_of more.0;
        lines = ap lines_of more.2 ∙ six (10 ∷ more.0) (lines_of more.0) (first_line (codes "end") more.0 (lacks 10 (codes "end") refl));
        blank = record { at = blank_right more.0 more.1 };
      }
    ]
  where
    six : (rest : List ℕ) (tail : List (List ℕ)) → lines_of (codes "end" ++ rest) ≡ codes "end" ∷ tail
        → lines_of (state_text p t ++ rest)
        ≡ title p ∷ fraction_line (codes "load") t.loads ∷ fraction_line (codes "room") t.rooms
        ∷ fraction_line (codes "flow") t.flows ∷ mark_line t.backed ∷ codes "end" ∷ tail
    six rest tail last =
        six_lines (title p) (fraction_line (codes "load") t.loads) (fraction_line (codes "room") t.rooms)
        (fraction_line (codes "flow") t.flows) (mark_line t.backed) (codes "end") rest tail (title_lacks p)
        (fraction_line_lacks (codes "load") t.loads (lacks 10 (codes "load") refl) h.lowest.loads)
        (fraction_line_lacks (codes "room") t.rooms (lacks 10 (codes "room") refl) h.lowest.rooms)
        (fraction_line_lacks (codes "flow") t.flows (lacks 10 (codes "flow") refl) h.lowest.flows)
        (mark_line_lacks t.backed) last

-- every line of a state's text is right
all_right : (n : Network) (p : Property) (t : Fractions) (bytes : List ℕ) → Fits n t → IsStateText p t bytes → AreRight (forms n p) (lines_of bytes)
unfolding title fraction_line mark_line
all_right n p t bytes fits text =
    let has = has_lines p t bytes text in
    subst (λ ls. AreRight (forms n p) ls) (sym has.lines)
    (all_later (just (title p)) _ (title p) _ refl
    (all_later (numbers (codes "load") n.inputs) _ (fraction_line (codes "load") t.loads) _ (numbers_filled (codes "load") t.loads n.inputs fits.loads text.lowest.loads)
    (all_later (numbers (codes "room") n.outputs) _ (fraction_line (codes "room") t.rooms) _ (numbers_filled (codes "room") t.rooms n.outputs fits.rooms text.lowest.rooms)
    (all_later (numbers (codes "flow") (length n.edges)) _ (fraction_line (codes "flow") t.flows) _ (numbers_filled (codes "flow") t.flows (length n.edges) fits.flows text.lowest.flows)
    (all_later (marks (length n.edges)) _ (mark_line t.backed) _
    (marks_filled t.backed (length n.edges) fits.backed)
    (all_later (just (codes "end")) [] (codes "end") has.rest refl has.blank))))))

-- so none is wrong
none_wrong : (n : Network) (p : Property) (t : Fractions) (bytes : List ℕ) (wrong : ℕ) → Fits n t → IsStateText p t bytes → IsWrongLine n p bytes wrong → ⊥
none_wrong n p t bytes wrong fits text h = right_none_wrong (forms n p) bytes wrong (all_right n p t bytes fits text) h

-- lines with one text have the same lists
same_fractions : (word : List ℕ) (xs ys : List Ratio) → All IsLowest xs → All IsLowest ys → fraction_line word xs ≡ fraction_line word ys → xs ≡ ys
unfolding fraction_line
same_fractions word xs ys all all' e = same_numbers word xs ys all all' e

same_mark_lines : (xs ys : List Bool) → mark_line xs ≡ mark_line ys → xs ≡ ys
unfolding mark_line
same_mark_lines xs ys e = same_marks xs ys e

pub same_fractions_of : (s t : Fractions) → s.flows ≡ t.flows → s.backed ≡ t.backed → s.loads ≡ t.loads → s.rooms ≡ t.rooms → s ≡ t
same_fractions_of s t flows backed loads rooms =
    ap (λ x. record { flows = x; backed = s.backed; loads = s.loads; rooms = s.rooms }) flows
    ∙ ap (λ x. record { flows = t.flows; backed = x; loads = s.loads; rooms = s.rooms }) backed
    ∙ ap (λ x. record { flows = t.flows; backed = t.backed; loads = x; rooms = s.rooms }) loads
    ∙ ap (λ x. record { flows = t.flows; backed = t.backed; loads = t.loads; rooms = x }) rooms

-- a text is written for one state
pub one_state : (p : Property) (s t : Fractions) (bytes : List ℕ) → IsStateText p s bytes → IsStateText p t bytes → s ≡ t
one_state p s t bytes hs ht =
    let has = has_lines p s bytes hs in
    let has' = has_lines p t bytes ht in
    let e = sym has.lines ∙ has'.lines in
    same_fractions_of s t
    (same_fractions (codes "flow") s.flows t.flows hs.lowest.flows ht.lowest.flows (ap (λ ls. slice_index_or ls 3 []) e))
    (same_mark_lines s.backed t.backed (ap (λ ls. slice_index_or ls 4 []) e))
    (same_fractions (codes "load") s.loads t.loads hs.lowest.loads ht.lowest.loads (ap (λ ls. slice_index_or ls 1 []) e))
    (same_fractions (codes "room") s.rooms t.rooms hs.lowest.rooms ht.lowest.rooms (ap (λ ls. slice_index_or ls 2 []) e))

-- reading bytes has one right answer
pub one_state_read : (n : Network) (p : Property) (bytes : List ℕ) → HasOneAnswer (IsStateRead n p bytes)
one_state_read n p bytes (Ok s) (Ok t) h k = ap Ok (one_state p s t bytes h.1 k.1)
one_state_read n p bytes (Ok s) (Err (CertLine line)) h k = absurd (none_wrong n p s bytes line h.0 h.1 k)
one_state_read n p bytes (Ok s) (Err Memory) h k = absurd k
one_state_read n p bytes (Err (CertLine line)) (Ok t) h k = absurd (none_wrong n p t bytes line k.0 k.1 h)
one_state_read n p bytes (Err (CertLine line)) (Err (CertLine other)) h k = ap (λ l. Err (CertLine l)) (one_wrong (forms n p) bytes line other h k)
one_state_read n p bytes (Err (CertLine line)) (Err Memory) h k = absurd k
one_state_read n p bytes (Err Memory) y h k = absurd h

-- a line that follows is a word and its fractions
fraction_line_is : (word line : List ℕ) (count : ℕ) (fractions : List Ratio) → Follows word line (SpellsFractions count) fractions
    → line ≡ word ++ spaced (map frac_text fractions)
fraction_line_is word line count fractions follows = follows.line_is ∙ ap (λ t. word ++ t) follows.spells.text_is

mark_line_is : (line : List ℕ) (count : ℕ) (backed : List Bool) → Follows (codes "mark") line (SpellsMarks count) backed
    → line ≡ codes "mark" ++ spaced (map mark_text backed)
mark_line_is line count backed follows = follows.line_is ∙ ap (λ t. codes "mark" ++ t) follows.spells.text_is

-- a text that was cut into the six lines of a state, and blanks
pub found_text : (p : Property) (t : Fractions) (bytes a b c d e f r1 r2 r3 r4 r5 r6 : List ℕ) (inputs outputs edges : ℕ)
    → CutsAt 10 bytes a r1 → a ≡ codes "no " ++ property_name p
    → LeadsTo 10 r1 b r2 → Follows (codes "load") b (SpellsFractions inputs) t.loads
    → LeadsTo 10 r2 c r3 → Follows (codes "room") c (SpellsFractions outputs) t.rooms
    → LeadsTo 10 r3 d r4 → Follows (codes "flow") d (SpellsFractions edges) t.flows
    → LeadsTo 10 r4 e r5 → Follows (codes "mark") e (SpellsMarks edges) t.backed
    → LeadsTo 10 r5 f r6 → f ≡ codes "end" → All IsBlank r6 → IsStateText p t bytes
found_text p t bytes a b c d e f r1 r2 r3 r4 r5 r6 inputs outputs edges cuts is_a leads_b is_b leads_c is_c leads_d is_d leads_e is_e leads_f is_f blank =
    record {
      lowest = record { flows = is_d.spells.meets; loads = is_b.spells.meets; rooms = is_c.spells.meets };
      text = elim leads_f.begins [
        | inl none ↦ inl (whole ∙ ap (λ r. state_text p t ++ r) none ∙ append-nil (state_text p t))
        | inr more ↦ inr (more.0, All-tail IsBlank 10 more.0 (subst (λ r. All IsBlank r) more.1 blank), whole ∙ ap (λ r. state_text p t ++ r) more.1)
      ];
    }
  where
    whole : bytes ≡ state_text p t ++ r6
    whole =
        joined bytes (codes "no " ++ property_name p) (codes "load" ++ spaced (map frac_text t.loads)) (codes "room" ++ spaced (map frac_text t.rooms))
        (codes "flow" ++ spaced (map frac_text t.flows)) (codes "mark" ++ spaced (map mark_text t.backed)) (codes "end") r1 r2 r3 r4 r5 r6
        (cuts.text_is ∙ ap (λ l. l ++ r1) is_a)
        (leads_b.text_is ∙ ap (λ l. 10 ∷ (l ++ r2)) (fraction_line_is (codes "load") b inputs t.loads is_b))
        (leads_c.text_is ∙ ap (λ l. 10 ∷ (l ++ r3)) (fraction_line_is (codes "room") c outputs t.rooms is_c))
        (leads_d.text_is ∙ ap (λ l. 10 ∷ (l ++ r4)) (fraction_line_is (codes "flow") d edges t.flows is_d))
        (leads_e.text_is ∙ ap (λ l. 10 ∷ (l ++ r5)) (mark_line_is e edges t.backed is_e))
        (leads_f.text_is ∙ ap (λ l. 10 ∷ (l ++ r6)) is_f)
