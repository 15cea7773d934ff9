-- How the order of splitters goes on.
use Rattle.std.proofs.Common.{◌≡◌, ℕ, zero, suc, ◌<◌, Bool, false, List, [], ◌∷◌, ◌++◌, length, map, sym, ◌∙◌, ap, arith}
use Rattle.std.specs.List.{remove}
use Rattle.std.specs.Prelude.{◌==◌}
use Rattle.std.proofs.lemmas.Bool.{false≢true}
use Rattle.std.proofs.lemmas.List.Edits.{length-remove}
use Rattle.bt_net.specs.declared.network.Edge.{Edge}
use Rattle.bt_place.specs.Numbering.{joining, ordered}
use Rattle.bt_place.specs.inner.Order.{next_place, next_splitter}
use Rattle.bt_place.proofs.Counting.{length_map}
use Rattle.bt_place.proofs.Ranking.{first_within}

-- the next splitter is one of those that are left
pub next_within : (edges : List Edge) (placed left : List ℕ) → 0 < length left → next_place edges placed left < length left
next_within edges placed left lt =
    let long = length_map (joining edges placed) left in
    let within = first_within (map (joining edges placed) left) (omega (arith, long, lt)) in
    omega (arith, within, long)

-- the order goes on with the next splitter
pub ordered_next : (n : ℕ) (edges : List Edge) (placed left now rest : List ℕ) → n ≡ length left → 0 < n
    → now ≡ placed ++ next_splitter edges placed left ∷ [] → rest ≡ remove left (next_place edges placed left)
    → ordered (length rest) edges now rest ≡ ordered n edges placed left
ordered_next zero edges placed left now rest e lt h k = absurd (omega arith)
ordered_next (suc n) edges placed left now rest e lt h k =
    let within = next_within edges placed left (omega (arith, e)) in
    let less = length-remove left (next_place edges placed left) within in
    let long : length rest ≡ n = ap length k ∙ (let z : length (remove left (next_place edges placed left)) ≡ n = omega (arith, less, e) in z) in
    ap (λ m. ordered m edges now rest) long ∙ ap (λ p. ordered n edges p rest) h ∙ ap (ordered n edges (placed ++ next_splitter edges placed left ∷ [])) k

-- some are left where a test doesn't find that none is
pub some_left : (n m : ℕ) (b : Bool) → b ≡ (n == 0) → b ≡ false → n ≡ m → 0 < m
some_left zero m b e f same = absurd (false≢true (sym f ∙ e))
some_left (suc n) m b e f same = omega arith
