-- The order of splitters has each of them, at its rank.
use Rattle.std.proofs.Common.{◌≡◌, ◌⊎◌, inl, inr, ℕ, zero, suc, ◌<◌, ◌+◌, Bool, true, false, cond, not, eqb, ltb, List, [], ◌∷◌, ◌++◌, length, map, get_or, refl, sym, ◌∙◌, ap, ⊎_elim, arith, eq-eqb, eqb-true, length-append}
use Rattle.std.specs.List.{range_with_len, remove, position_or_len}
use Rattle.std.specs.Prelude.{slice_index, ◌==◌}
use Rattle.std.proofs.lemmas.Bool.{false≢true}
use Rattle.std.proofs.lemmas.List.Edits.{length-remove}
use Rattle.bt_net.specs.declared.network.Edge.{Edge}
use Rattle.bt_model.specs.Requests.{LayoutRequest}
use Rattle.bt_place.specs.Numbering.{joining, place_of_most, first_most, ordered}
use Rattle.bt_place.specs.PlaceFormula.{splitter_order, ranks_of, sizes_of}
use Rattle.bt_place.proofs.Counting.{get_map, length_map, length_range, get_range}
use Rattle.bt_place.proofs.Inverse.{AreRanks}
use Rattle.bt_facts.proofs.Keeping.{In, in_left, in_right, in_range}

most_within : (place most next : ℕ) (ns : List ℕ) → place < next → place_of_most place most next ns < next + length ns
most_within place most next [] lt = omega arith
most_within place most next (n ∷ ns) lt = by (ltb most n) (most_within next n (next + 1) ns (omega arith)) (most_within place most (next + 1) ns (omega arith))
  where
    by : (b : Bool) → place_of_most next n (next + 1) ns < next + 1 + length ns → place_of_most place most (next + 1) ns < next + 1 + length ns
        → cond b (place_of_most next n (next + 1) ns) (place_of_most place most (next + 1) ns) < next + length (n ∷ ns)
    by true h k = omega arith
    by false h k = omega arith

pub first_within : (ns : List ℕ) → 0 < length ns → first_most ns < length ns
first_within [] lt = absurd (omega arith)
first_within (n ∷ ns) lt = let h = most_within 0 n 1 ns (omega arith) in omega arith

-- an item of a list is the one at a place, or one of the others
not_removed : (xs : List ℕ) (k s : ℕ) → k < length xs → In xs s → (s ≡ get_or xs k 0) ⊎ In (remove xs k) s
not_removed [] k s lt h = absurd h
not_removed (x ∷ xs) zero s lt (inl e) = inl e
not_removed (x ∷ xs) zero s lt (inr h) = inr h
not_removed (x ∷ xs) (suc k) s lt (inl e) = inr (inl e)
not_removed (x ∷ xs) (suc k) s lt (inr h) = ⊎_elim (λ e. inl e) (λ r. inr (inr r)) (not_removed xs k s (omega arith) h)

ordered_long : (n : ℕ) (edges : List Edge) (done left : List ℕ) → length left ≡ n → length (ordered n edges done left) ≡ length done + n
ordered_long zero edges done left e = omega arith
ordered_long (suc n) edges done left e =
    let k = first_most (map (joining edges done) left) in
    let long = length_map (joining edges done) left in
    let lt : k < length left = let h = first_within (map (joining edges done) left) (omega (arith, e, long)) in omega (arith, h, long) in
    let less = length-remove left k lt in
    ordered_long n edges (done ++ slice_index left k ∷ []) (remove left k) (omega (arith, less, e))
    ∙ (let more = length-append done (slice_index left k ∷ []) in omega (arith, more))

ordered_has : (n : ℕ) (edges : List Edge) (done left : List ℕ) (s : ℕ) → length left ≡ n → In done s ⊎ In left s → In (ordered n edges done left) s
ordered_has zero edges done [] s e (inl h) = h
ordered_has zero edges done [] s e (inr h) = absurd h
ordered_has zero edges done (x ∷ left) s e h = absurd (omega (arith, e))
ordered_has (suc n) edges done left s e h =
    let k = first_most (map (joining edges done) left) in
    let long = length_map (joining edges done) left in
    let lt : k < length left = let f = first_within (map (joining edges done) left) (omega (arith, e, long)) in omega (arith, f, long) in
    let less = length-remove left k lt in
    ordered_has n edges (done ++ slice_index left k ∷ []) (remove left k) s (omega (arith, less, e))
    (⊎_elim (λ d. inl (in_left done (slice_index left k ∷ []) s d))
    (λ l. ⊎_elim (λ same. inl (in_right done (slice_index left k ∷ []) s (inl same))) (λ rest. inr rest) (not_removed left k s lt l)) h)

-- the first place of an item that is there
placed : (xs : List ℕ) (s : ℕ) → In xs s → (position_or_len (λ k. k == s) xs < length xs) × (get_or xs (position_or_len (λ k. k == s) xs) 0 ≡ s)
placed [] s h = absurd h
placed (x ∷ xs) s h = by (eqb x s) refl h (placed xs s)
  where
    by : (b : Bool) → eqb x s ≡ b → In (x ∷ xs) s → (In xs s → (position_or_len (λ k. k == s) xs < length xs) × (get_or xs (position_or_len (λ k. k == s) xs) 0 ≡ s))
        → (cond (not b) (1 + position_or_len (λ k. k == s) xs) 0 < length (x ∷ xs)) × (get_or (x ∷ xs) (cond (not b) (1 + position_or_len (λ k. k == s) xs) 0) 0 ≡ s)
    by true t h rest = (omega arith, eqb-true x s t)
    by false t (inl e) rest = absurd (false≢true (sym t ∙ eq-eqb x s (sym e)))
    by false t (inr h) rest =
        let found = rest h in
        let lt = found.0 in
        (omega (arith, lt), ap (λ n. get_or (x ∷ xs) n 0) (let z : 1 + position_or_len (λ k. k == s) xs ≡ suc (position_or_len (λ k. k == s) xs) = omega arith in z) ∙ found.1)

-- the ranks of the splitters of a request
pub ranked : (r : LayoutRequest) → AreRanks (sizes_of r) (splitter_order r.net)
ranked r =
    let n = r.net.splitters in
    let order = splitter_order r.net in
    let long : length order ≡ n = ordered_long n r.net.edges [] (range_with_len 0 n) (length_range 0 n) ∙ (let e : length {A = ℕ} [] + n ≡ n = omega arith in e) in
    let has : (s : ℕ) → s < n → In order s = λ s lt. ordered_has n r.net.edges [] (range_with_len 0 n) s (length_range 0 n) (inr (in_range 0 n s (omega arith) (omega arith))) in
    let rank : (s : ℕ) → s < n → slice_index (ranks_of r.net) s ≡ position_or_len (λ k. k == s) order = λ s lt.
    let wide = length_range 0 n in
    get_map (λ s. position_or_len (λ k. k == s) order) (range_with_len 0 n) s 0 s (omega (arith, wide, lt))
    ∙ ap (λ v. position_or_len (λ k. k == v) order) (get_range 0 n s s lt ∙ (let e : 0 + s ≡ s = omega arith in e)) in
    record {
      long = long;
      within = λ s lt. let at = (placed order s (has s lt)).0 in let e = rank s lt in omega (arith, at, e, long);
      there = λ s lt. ap (λ k. get_or order k 0) (rank s lt) ∙ (placed order s (has s lt)).1;
    }
