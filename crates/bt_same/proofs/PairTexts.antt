-- The text of a pair: that every line of it is right, that it has one pair, and that what is written of a pair is its
-- text.
use Rattle.std.proofs.Common.{◌≡◌, ℕ, List, [], ◌∷◌, ◌++◌, length, map, refl, sym, ◌∙◌, ap, subst, inl, inr, append_assoc, append-nil, codes, Ok, Err}
use Rattle.std.specs.List.{All, flat_map, slice_index_or}
use Rattle.std.proofs.lemmas.List.Elements.{All-tail, All-nil}
use Rattle.bt_text.specs.Answers.{HasOneAnswer}
use Rattle.bt_text.specs.Blanks.{IsBlank}
use Rattle.bt_text.specs.Lines.{Lacks, line}
use Rattle.bt_text.specs.Pieces.{CutsAt, LeadsTo}
use Rattle.bt_text.proofs.Lacking.{lacks}
use Rattle.bt_frac.specs.Texts.{frac_text}
use Rattle.bt_net.specs.Network.{Network}
use Rattle.bt_flow.specs.declared.fault.StateFault.TheVariants.{CertLine, Memory}
use Rattle.bt_flow.specs.States.{AreLowest, Fits}
use Rattle.bt_flow.specs.StateText.{mark_text, spaced}
use Rattle.bt_flow.specs.StateLines.{just, numbers, marks, lines_of, IsFirstWrongLine}
use Rattle.bt_flow.proofs.LineTexts.{HasLinesFirst, lines_and_blanks, numbers_lack, marks_lack, numbers_filled, marks_filled, same_numbers, same_marks}
use Rattle.bt_flow.proofs.StateTexts.{same_fractions_of}
use Rattle.bt_flow.proofs.WrongLines.{AreRight, all_later, one_wrong, right_none_wrong}
use Rattle.bt_flow_formula.proofs.Numbers.{all_from}
use Rattle.bt_same.specs.declared.pair.Pair.{Pair}
use Rattle.bt_same.specs.Pairs.{AreAlike}
use Rattle.bt_same.specs.PairText.{pair_lines, IsPairText}
use Rattle.bt_same.specs.PairReading.{pair_forms, IsPairRead, PrintedPairIsRead}

-- the lines of a pair's text after the title
abbrev later_lines : Pair → List (List ℕ)
later_lines pair =
    (codes "load" ++ spaced (map frac_text pair.first.loads))
    ∷ (codes "room" ++ spaced (map frac_text pair.first.rooms))
    ∷ (codes "flow" ++ spaced (map frac_text pair.first.flows))
    ∷ (codes "mark" ++ spaced (map mark_text pair.first.backed))
    ∷ (codes "flow" ++ spaced (map frac_text pair.second.flows))
    ∷ (codes "mark" ++ spaced (map mark_text pair.second.backed))
    ∷ codes "end"
    ∷ []

-- no line feed is in them
none_broken : (pair : Pair) → AreLowest pair.first → AreLowest pair.second → All (Lacks 10) (codes "differ" ∷ later_lines pair)
none_broken pair first second =
    all_from (Lacks 10) (codes "differ" ∷ later_lines pair) (
      lacks 10 (codes "differ") refl,
      (
        numbers_lack (codes "load") pair.first.loads (lacks 10 (codes "load") refl) first.loads,
        (
          numbers_lack (codes "room") pair.first.rooms (lacks 10 (codes "room") refl) first.rooms,
          (
            numbers_lack (codes "flow") pair.first.flows (lacks 10 (codes "flow") refl) first.flows,
            (
              marks_lack pair.first.backed,
              (
                numbers_lack (codes "flow") pair.second.flows (lacks 10 (codes "flow") refl) second.flows,
                (marks_lack pair.second.backed, (lacks 10 (codes "end") refl, tt)),
              ),
            ),
          ),
        ),
      ),
    )

-- the lines of a pair's text
has_lines : (pair : Pair) (bytes : List ℕ) → IsPairText pair bytes → HasLinesFirst (pair_lines pair) bytes
has_lines pair bytes h = lines_and_blanks (codes "differ") (later_lines pair) bytes h.blanks (none_broken pair h.first h.second) h.begins h.are_blanks

-- every line of a pair's text is right
all_right : (a b : Network) (pair : Pair) (bytes : List ℕ) → Fits a pair.first → Fits b pair.second → IsPairText pair bytes → AreRight (pair_forms a b) (lines_of bytes)
all_right a b pair bytes fits fits' text =
    let has = has_lines pair bytes text in
    subst (λ ls. AreRight (pair_forms a b) ls) (sym has.lines_are)
    (all_later (just (codes "differ")) _ (codes "differ") _ refl
    (all_later (numbers (codes "load") a.inputs) _ _ _ (numbers_filled (codes "load") pair.first.loads a.inputs fits.loads text.first.loads)
    (all_later (numbers (codes "room") a.outputs) _ _ _ (numbers_filled (codes "room") pair.first.rooms a.outputs fits.rooms text.first.rooms)
    (all_later (numbers (codes "flow") (length a.edges)) _ _ _ (numbers_filled (codes "flow") pair.first.flows (length a.edges) fits.flows text.first.flows)
    (all_later (marks (length a.edges)) _ _ _ (marks_filled pair.first.backed (length a.edges) fits.backed)
    (all_later (numbers (codes "flow") (length b.edges)) _ _ _ (numbers_filled (codes "flow") pair.second.flows (length b.edges) fits'.flows text.second.flows)
    (all_later (marks (length b.edges)) _ _ _ (marks_filled pair.second.backed (length b.edges) fits'.backed)
    (all_later (just (codes "end")) [] (codes "end") has.rest refl has.blank))))))))

none_wrong : (a b : Network) (pair : Pair) (bytes : List ℕ) (wrong : ℕ) → Fits a pair.first → Fits b pair.second → IsPairText pair bytes
    → IsFirstWrongLine (pair_forms a b) bytes wrong → ⊥
none_wrong a b pair bytes wrong fits fits' text h = right_none_wrong (pair_forms a b) bytes wrong (all_right a b pair bytes fits fits' text) h

same_pairs : (p q : Pair) → p.first ≡ q.first → p.second ≡ q.second → p ≡ q
same_pairs p q first second = ap (λ x. record { first = x; second = p.second }) first ∙ ap (λ x. record { first = q.first; second = x }) second

-- a text is written for one pair
one_pair : (p q : Pair) (bytes : List ℕ) → IsPairText p bytes → IsPairText q bytes → p ≡ q
one_pair p q bytes hp hq =
    let has = has_lines p bytes hp in
    let has' = has_lines q bytes hq in
    let e = sym has.lines_are ∙ has'.lines_are in
    let loads = same_numbers (codes "load") p.first.loads q.first.loads hp.first.loads hq.first.loads (ap (λ ls. slice_index_or ls 1 []) e) in
    let rooms = same_numbers (codes "room") p.first.rooms q.first.rooms hp.first.rooms hq.first.rooms (ap (λ ls. slice_index_or ls 2 []) e) in
    same_pairs p q
    (same_fractions_of p.first q.first
    (same_numbers (codes "flow") p.first.flows q.first.flows hp.first.flows hq.first.flows (ap (λ ls. slice_index_or ls 3 []) e))
    (same_marks p.first.backed q.first.backed (ap (λ ls. slice_index_or ls 4 []) e)) loads rooms)
    (same_fractions_of p.second q.second
    (same_numbers (codes "flow") p.second.flows q.second.flows hp.second.flows hq.second.flows (ap (λ ls. slice_index_or ls 5 []) e))
    (same_marks p.second.backed q.second.backed (ap (λ ls. slice_index_or ls 6 []) e))
    (sym hp.alike.0 ∙ loads ∙ hq.alike.0) (sym hp.alike.1 ∙ rooms ∙ hq.alike.1))

-- reading bytes has one right answer
pub one_pair_read : (a b : Network) (bytes : List ℕ) → HasOneAnswer (IsPairRead a b bytes)
one_pair_read a b bytes (Ok p) (Ok q) h k = ap Ok (one_pair p q bytes h.2 k.2)
one_pair_read a b bytes (Ok p) (Err (CertLine line)) h k = absurd (none_wrong a b p bytes line h.0 h.1 h.2 k)
one_pair_read a b bytes (Ok p) (Err Memory) h k = absurd k
one_pair_read a b bytes (Err (CertLine line)) (Ok q) h k = absurd (none_wrong a b q bytes line k.0 k.1 k.2 h)
one_pair_read a b bytes (Err (CertLine line)) (Err (CertLine other)) h k = ap (λ l. Err (CertLine l)) (one_wrong (pair_forms a b) bytes line other h k)
one_pair_read a b bytes (Err (CertLine line)) (Err Memory) h k = absurd k
one_pair_read a b bytes (Err Memory) y h k = absurd h

-- what is written of a pair is read as that pair
pub printed_is_read : PrintedPairIsRead
printed_is_read a b pair lowest lowest' alike fits fits' = (
  fits,
  fits',
  record {
    first = lowest;
    second = lowest';
    alike = alike;
    blanks = [];
    are_blanks = All-nil IsBlank;
    begins = inl (sym (append-nil _));
  },
)

-- eight lines and a rest, cut at their line feeds
regrouped : (l1 l2 l3 l4 l5 l6 l7 l8 rest : List ℕ) → flat_map line (l1 ∷ l2 ∷ l3 ∷ l4 ∷ l5 ∷ l6 ∷ l7 ∷ l8 ∷ []) ++ rest
    ≡ l1 ++ 10 ∷ (l2 ++ 10 ∷ (l3 ++ 10 ∷ (l4 ++ 10 ∷ (l5 ++ 10 ∷ (l6 ++ 10 ∷ (l7 ++ 10 ∷ (l8 ++ 10 ∷ rest)))))))
regrouped l1 l2 l3 l4 l5 l6 l7 l8 rest = simp (append_assoc, append-nil)

unended : (l1 l2 l3 l4 l5 l6 l7 l8 : List ℕ) → line (l1 ++ 10 ∷ (l2 ++ 10 ∷ (l3 ++ 10 ∷ (l4 ++ 10 ∷ (l5 ++ 10 ∷ (l6 ++ 10 ∷ (l7 ++ 10 ∷ l8)))))))
    ≡ flat_map line (l1 ∷ l2 ∷ l3 ∷ l4 ∷ l5 ∷ l6 ∷ l7 ∷ l8 ∷ [])
unended l1 l2 l3 l4 l5 l6 l7 l8 = simp (append_assoc, append-nil)

-- bytes that were cut into eight lines
joined : (bytes l1 l2 l3 l4 l5 l6 l7 l8 r1 r2 r3 r4 r5 r6 r7 r8 : List ℕ) → bytes ≡ l1 ++ r1 → r1 ≡ 10 ∷ (l2 ++ r2) → r2 ≡ 10 ∷ (l3 ++ r3) → r3 ≡ 10 ∷ (l4 ++ r4)
    → r4 ≡ 10 ∷ (l5 ++ r5) → r5 ≡ 10 ∷ (l6 ++ r6) → r6 ≡ 10 ∷ (l7 ++ r7) → r7 ≡ 10 ∷ (l8 ++ r8)
    → bytes ≡ l1 ++ 10 ∷ (l2 ++ 10 ∷ (l3 ++ 10 ∷ (l4 ++ 10 ∷ (l5 ++ 10 ∷ (l6 ++ 10 ∷ (l7 ++ 10 ∷ (l8 ++ r8)))))))
joined bytes l1 l2 l3 l4 l5 l6 l7 l8 r1 r2 r3 r4 r5 r6 r7 r8 e1 e2 e3 e4 e5 e6 e7 e8 =
    e1 ∙ ap (λ r. l1 ++ r) (e2 ∙ ap (λ r. 10 ∷ (l2 ++ r)) (e3 ∙ ap (λ r. 10 ∷ (l3 ++ r)) (e4 ∙ ap (λ r. 10 ∷ (l4 ++ r)) (e5 ∙ ap (λ r. 10 ∷ (l5 ++ r))
    (e6 ∙ ap (λ r. 10 ∷ (l6 ++ r)) (e7 ∙ ap (λ r. 10 ∷ (l7 ++ r)) e8))))))

-- bytes that were cut into the eight lines of a pair, and blanks
pub found_pair : (pair : Pair) (bytes l1 l2 l3 l4 l5 l6 l7 l8 r1 r2 r3 r4 r5 r6 r7 r8 : List ℕ)
    → CutsAt 10 bytes l1 r1 → LeadsTo 10 r1 l2 r2 → LeadsTo 10 r2 l3 r3 → LeadsTo 10 r3 l4 r4 → LeadsTo 10 r4 l5 r5 → LeadsTo 10 r5 l6 r6 → LeadsTo 10 r6 l7 r7 → LeadsTo 10 r7 l8 r8
    → l1 ∷ l2 ∷ l3 ∷ l4 ∷ l5 ∷ l6 ∷ l7 ∷ l8 ∷ [] ≡ pair_lines pair → AreLowest pair.first → AreLowest pair.second → AreAlike pair.first pair.second → All IsBlank r8
    → IsPairText pair bytes
found_pair pair bytes l1 l2 l3 l4 l5 l6 l7 l8 r1 r2 r3 r4 r5 r6 r7 r8 c1 c2 c3 c4 c5 c6 c7 c8 are lowest lowest' alike blank =
    elim c8.begins [
      | inl none ↦ record {
        first = lowest;
        second = lowest';
        alike = alike;
        blanks = [];
        are_blanks = All-nil IsBlank;
        begins = inr (ended none, refl);
      }
      | inr more ↦ record {
        first = lowest;
        second = lowest';
        alike = alike;
        blanks = more.0;
        are_blanks = All-tail IsBlank 10 more.0 (subst (λ r. All IsBlank r) more.1 blank);
        begins = inl (followed more.0 more.1);
      }
    ]
  where
    whole : bytes ≡ l1 ++ 10 ∷ (l2 ++ 10 ∷ (l3 ++ 10 ∷ (l4 ++ 10 ∷ (l5 ++ 10 ∷ (l6 ++ 10 ∷ (l7 ++ 10 ∷ (l8 ++ r8)))))))
    whole =
        joined bytes l1 l2 l3 l4 l5 l6 l7 l8 r1 r2 r3 r4 r5 r6 r7 r8 c1.text_is c2.text_is c3.text_is c4.text_is c5.text_is c6.text_is c7.text_is c8.text_is

    followed : (more : List ℕ) → r8 ≡ 10 ∷ more → bytes ≡ flat_map line (pair_lines pair) ++ more
    followed more e =
        whole ∙ ap (λ r. l1 ++ 10 ∷ (l2 ++ 10 ∷ (l3 ++ 10 ∷ (l4 ++ 10 ∷ (l5 ++ 10 ∷ (l6 ++ 10 ∷ (l7 ++ 10 ∷ (l8 ++ r)))))))) e
        ∙ sym (regrouped l1 l2 l3 l4 l5 l6 l7 l8 more) ∙ ap (λ ls. flat_map line ls ++ more) are

    ended : r8 ≡ [] → line bytes ≡ flat_map line (pair_lines pair)
    ended e =
        ap line (whole ∙ ap (λ r. l1 ++ 10 ∷ (l2 ++ 10 ∷ (l3 ++ 10 ∷ (l4 ++ 10 ∷ (l5 ++ 10 ∷ (l6 ++ 10 ∷ (l7 ++ 10 ∷ r))))))) (ap (λ r. l8 ++ r) e ∙ append-nil l8))
        ∙ unended l1 l2 l3 l4 l5 l6 l7 l8 ∙ ap (λ ls. flat_map line ls) are
