-- Two designs that are all of some bytes, and stand at the front where a line feed and a text follow.
use Rattle.std.proofs.Common.{◌≡◌, ◌⊎◌, ℕ, zero, suc, ◌+◌, ◌-◌, ◌<◌, ◌≤◌, List, [], ◌∷◌, ◌++◌, length, take, drop, Ok, refl, sym, ◌∙◌, ap, subst, inl, inr, arith, length-append}
use Rattle.std.specs.Prelude.{codes, slice_index}
use Rattle.std.proofs.lemmas.List.{append_assoc, length-drop, take-append-drop, drop-append-le}
use Rattle.bt_text.specs.Blanks.{IsBlank, SkipsBlanks}
use Rattle.bt_net.specs.declared.network.Admitted.TheVariants.{Nothing}
use Rattle.bt_net.specs.Longer.{with_line_feed}
use Rattle.bt_net.specs.Readings.{IsNetRead}
use Rattle.bt_net.proofs.Longer.{reading_stays}
use Rattle.bt_net.specs.Network.{Network, IsNetwork}
use Rattle.bt_same.specs.Sameness.{HaveEqualEnds}
use Rattle.bt_designs.specs.Alone.{IsAlone}
use Rattle.bt_designs.specs.Designs.{IsTieredBlueprint, IsBareText, IsBareDesign, in_basic_belts}
use Rattle.bt_designs.specs.Longer.{IsOtherText}
use Rattle.bt_designs.specs.Refusals.{net_told}
use Rattle.bt_designs.specs.Steps.{stopped, went_on}
use Rattle.bt_designs.specs.TwoDesigns.{HaveSameEnds, IsTwoNets, IsFrontNets}
use Rattle.bt_designs.proofs.BareNets.{bare_network, paired}
use Rattle.bt_designs.proofs.Followed.{StandsAlone, IsFollowed, is_followed, stands_alone}
use Rattle.bt_designs.proofs.InTurns.{same_value, not_both}
use Rattle.bt_designs.proofs.LongerDesigns.{json_text_stays, net_first, other_text_stays, told_stays, told_within}

-- ---- the text of a bare design

abbrev BareStays : List ℕ → Network → ℕ → Type 0
BareStays bytes n used = ((more : List ℕ) → IsBareDesign (bytes ++ more) (Ok (n, used))) ⊎ ((used ≡ length bytes) × ((more : List ℕ) → IsBareDesign (bytes ++ 10 ∷ more) (Ok (n, used + 1))))

module _ (bytes : List ℕ) (n : Network) (used : ℕ) where
  bare_text_within : IsBareText bytes (Ok (n, used)) → used ≤ length bytes
  bare_text_within (stopped fault h e) = absurd (not_both (n, used) (net_told fault) e)
  bare_text_within (went_on read h e) =
      let same = ap (λ (x : Network × ℕ). x.1) (same_value (n, used) (read.net, read.used) e) in omega (arith, same, h.used)

  bare_text_stays : IsBareText bytes (Ok (n, used)) → BareStays bytes n used
  bare_text_stays (stopped fault h e) = absurd (not_both (n, used) (net_told fault) e)
  bare_text_stays (went_on read h e) = by (reading_stays Nothing bytes read h)
    where
      other : IsOtherText bytes
      other = net_first bytes (drop read.used bytes) read.net (h.begins.edge_lines ++ (h.begins.priority_lines ++ (h.begins.demand_lines ++ (h.begins.block_lines ++ codes "end" ∷ [])))) h.begins.begins

      same : ◌≡◌ {A = Network × ℕ} (n, used) (read.net, read.used)
      same = same_value (n, used) (read.net, read.used) e

      by : ((more : List ℕ) → IsNetRead Nothing (bytes ++ more) (Ok read)) ⊎ ((read.used ≡ length bytes) × ((more : List ℕ) → IsNetRead Nothing (bytes ++ 10 ∷ more) (Ok (with_line_feed read)))) → BareStays bytes n used
      by (inl stays) = inl (λ more. inr (other_text_stays bytes more other, went_on read (stays more) e))
      by (inr (all, fed)) =
          inr (ap (λ (x : Network × ℕ). x.1) same ∙ all, λ more. inr (other_text_stays bytes (10 ∷ more) other, went_on (with_line_feed read) (fed more) (ap (λ (x : Network × ℕ). Ok (x.0, x.1 + 1)) same)))

bare_within : (bytes : List ℕ) (n : Network) (used : ℕ) → IsBareDesign bytes (Ok (n, used)) → used ≤ length bytes
bare_within bytes n used (inl h) = told_within IsTieredBlueprint in_basic_belts bytes n used h.1
bare_within bytes n used (inr h) = bare_text_within bytes n used h.1

bare_stays : (bytes : List ℕ) (n : Network) (used : ℕ) → IsBareDesign bytes (Ok (n, used)) → BareStays bytes n used
bare_stays bytes n used (inl (is, h)) = inl (λ more. inl (json_text_stays bytes more is, told_stays IsTieredBlueprint in_basic_belts bytes more n used is h))
bare_stays bytes n used (inr (none, h)) = bare_text_stays bytes n used h

pub bare_goes_on : (bytes : List ℕ) (n : Network) (used : ℕ) → IsBareDesign bytes (Ok (n, used)) → (more : List ℕ) → used < length bytes → IsBareDesign (bytes ++ more) (Ok (n, used))
bare_goes_on bytes n used h more few = by (bare_stays bytes n used h)
  where
    by : BareStays bytes n used → IsBareDesign (bytes ++ more) (Ok (n, used))
    by (inl stays) = stays more
    by (inr (all, fed)) = absurd (omega (arith, all, few))

-- no design is empty
never_empty : (n : Network) (used : ℕ) → IsBareDesign [] (Ok (n, used)) → ⊥
never_empty n used (inl ((rest, s), h)) = omega (arith, ap length s.text_is, length-append s.blanks (123 ∷ rest))
never_empty n used (inr (none, stopped fault h e)) = not_both (n, used) (net_told fault) e
never_empty n used (inr (none, went_on read h e)) =
    let other = net_first [] (drop read.used []) read.net (h.begins.edge_lines ++ (h.begins.priority_lines ++ (h.begins.demand_lines ++ (h.begins.block_lines ++ codes "end" ∷ [])))) h.begins.begins in
    omega (arith, ap length other.2.text_is, length-append other.2.blanks (other.0 ∷ other.1))

-- what stands behind a front
pub drop_past : (front back : List ℕ) (k m : ℕ) → m ≡ length front + k → drop m (front ++ back) ≡ drop k back
drop_past [] back k m e = ap (λ x. drop x back) (omega (arith, e))
drop_past (b ∷ front) back k zero e = absurd (omega (arith, e))
drop_past (b ∷ front) back k (suc m) e = drop_past front back k m (omega (arith, e))

-- where a line feed and this text follow the bytes, two designs stand at the front, and the text follows them and
-- blanks
pub record AreFollowed (bytes text : List ℕ) (nets : Network × Network) : Type 0 where
  pub used : ℕ
  pub front : IsFrontNets (bytes ++ 10 ∷ text) (Ok (nets, used))
  pub rest : SkipsBlanks (drop used (bytes ++ 10 ∷ text)) text

module _ (bytes text : List ℕ) (starts : 0 < length text → IsBlank (slice_index text 0) → ⊥) where
  -- the second design, alone behind the first and blanks
  module _ (a : Network) (used : ℕ) (h : IsBareDesign bytes (Ok (a, used))) (second : List ℕ) (skips : SkipsBlanks (drop used bytes) second) (b : Network)
      (lone : IsAlone IsBareDesign second (Ok b)) where
    alone : StandsAlone IsBareDesign second b
    alone = stands_alone IsBareDesign second b lone

    on : IsFollowed IsBareDesign second text b
    on = is_followed IsBareDesign second text b starts alone.used alone.front (bare_within second b alone.used alone.front) alone.blanks (bare_stays second b alone.used alone.front)

    some : 0 < length second
    some = by second alone.front
      where
        by : (xs : List ℕ) → IsBareDesign xs (Ok (b, alone.used)) → 0 < length xs
        by [] is = absurd (never_empty b alone.used is)
        by (x ∷ xs) is = omega arith

    within : used ≤ length bytes
    within = bare_within bytes a used h

    parts : bytes ≡ (take used bytes ++ skips.blanks) ++ second
    parts = sym (take-append-drop used bytes) ∙ ap (λ l. take used bytes ++ l) skips.text_is ∙ sym (append_assoc (take used bytes) skips.blanks second)

    few : used < length bytes
    few =
        let dropped = length-drop used bytes in
        let is = ap length skips.text_is in
        let joined = length-append skips.blanks second in
        let more = some in
        let l = within in
        omega (arith, dropped, is, joined, more, l)

    behind : drop used (bytes ++ 10 ∷ text) ≡ skips.blanks ++ (second ++ 10 ∷ text)
    behind = drop-append-le used bytes (10 ∷ text) within ∙ ap (λ l. l ++ 10 ∷ text) skips.text_is ∙ append_assoc skips.blanks second (10 ∷ text)

    first_byte : (xs : List ℕ) → 0 < length xs → (0 < length xs → IsBlank (slice_index xs 0) → ⊥) → 0 < length (xs ++ 10 ∷ text) → IsBlank (slice_index (xs ++ 10 ∷ text) 0) → ⊥
    first_byte [] short not long blank = omega (arith, short)
    first_byte (x ∷ xs) short not long blank = not short blank

    skipped : SkipsBlanks (drop used (bytes ++ 10 ∷ text)) (second ++ 10 ∷ text)
    skipped = record { blanks = skips.blanks; are_blanks = skips.are_blanks; text_is = behind; no_more = first_byte second some skips.no_more }

    whole : bytes ++ 10 ∷ text ≡ (take used bytes ++ skips.blanks) ++ (second ++ 10 ∷ text)
    whole = ap (λ l. l ++ 10 ∷ text) parts ∙ append_assoc (take used bytes ++ skips.blanks) second (10 ∷ text)

    abbrev before : ℕ
    before = length (bytes ++ 10 ∷ text) - length (second ++ 10 ∷ text)

    long : before ≡ length (take used bytes ++ skips.blanks)
    long =
        let e = ap length whole in
        let l = length-append (take used bytes ++ skips.blanks) (second ++ 10 ∷ text) in
        omega (arith, e, l)

    pub two_followed : HaveSameEnds a b → AreFollowed bytes text (a, b)
    two_followed ends = record {
      used = before + on.used;
      front = went_on (a, used) (bare_goes_on bytes a used h (10 ∷ text) few) (second ++ 10 ∷ text, skipped, went_on (b, on.used) on.front (Ok (a, b), inl (ends, refl), refl));
      rest = subst (λ l. SkipsBlanks l text)
          (sym (ap (λ l. drop (before + on.used) l) whole ∙ drop_past (take used bytes ++ skips.blanks) (second ++ 10 ∷ text) on.used (before + on.used) (let e = long in omega (arith, e)))) on.rest;
    }

  -- two designs that are all of the bytes
  pub nets_followed : (nets : Network × Network) → IsTwoNets bytes (Ok nets) → AreFollowed bytes text nets × IsNetwork nets.0 × IsNetwork nets.1 × HaveEqualEnds nets.0 nets.1
  nets_followed nets (stopped fault h e) = absurd (not_both nets fault e)
  nets_followed nets (went_on found h (second, skips, stopped fault k e)) = absurd (not_both nets fault e)
  nets_followed nets (went_on found h (second, skips, went_on b lone pair)) =
      let is = paired found.0 b nets pair in
      let here = two_followed found.0 found.1 h second skips b lone is.0 in
      let alone = stands_alone IsBareDesign second b lone in
      subst (λ (x : Network × Network). AreFollowed bytes text x × IsNetwork x.0 × IsNetwork x.1 × HaveEqualEnds x.0 x.1) (sym is.1)
      (here, bare_network bytes found h, bare_network second (b, alone.used) alone.front, is.0.counts)
