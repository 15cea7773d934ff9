-- Reading a longer text.
use Rattle.std.proofs.Common.{◌≡◌, ◌≢◌, ℕ, ◌+◌, Bool, true, false, List, [], ◌∷◌, ◌++◌, length, drop, refl, ap, ◌∙◌, sym, subst, arith}
use Rattle.std.proofs.lemmas.List.{length-append, take-append-le}
use Rattle.bt_json.specs.Grammar.{◌▸◌, Blanks, IsValue}
use Rattle.bt_json.specs.Longer.{ValueStays, FaultStays}
use Rattle.bt_json.specs.inner.Reading.{State, Step, go, stop, Stop, found, bad, deep, twice, step, run, after_step, finish, finish_number, may_end, Frame, Numeral, due, in_number, reading}
use Rattle.bt_json.specs.declared.fault.JsonFault.{JsonFault}
use Rattle.bt_json.specs.declared.fault.JsonFault.TheVariants as faults
use Rattle.bt_json.proofs.Events.{first_stops, stops_first}
use Rattle.bt_json.proofs.Lenient.{StopsBy}

-- a value that ends anyhow stands at the front of each longer text
pub value_stays : ValueStays
value_stays bytes more v after ends read =
    let front = read.front in
    let within = front.within in
    record {
      front = record {
        within = omega (arith, within, length-append bytes more);
        spelled = subst (Blanks ▸ IsValue v) (sym (take-append-le after bytes more within)) front.spelled;
        ends = ends (drop after (bytes ++ more));
      };
      shallow = read.shallow;
      distinct = read.distinct;
    }

-- reading ends in a fault, which isn't that the bytes end at this place
abbrev IsFaultBefore : ℕ → Stop → Type 0
IsFaultBefore end (found v n) = ⊥
IsFaultBefore end (bad n) = n ≢ end
IsFaultBefore end (deep n) = Unit {0}
IsFaultBefore end (twice from n) = Unit {0}

number_ends : (at : ℕ) (n : Numeral) (k : List Frame) (b : Bool) → IsFaultBefore at (finish_number at n k b) → ⊥
number_ends at n [] true h = h
number_ends at n [] false h = h refl
number_ends at n (f ∷ k) true h = h refl
number_ends at n (f ∷ k) false h = h refl

-- where the bytes end there is no other fault than that
finish_ends : (at : ℕ) (s : State) → IsFaultBefore at (finish at s) → ⊥
finish_ends at (in_number phase n k) h = number_ends at n k (may_end phase) h
finish_ends at s h = h refl

-- a fault before the end comes before any bytes that follow
run_stays : (strict : Bool) (bytes more : List ℕ) (at end : ℕ) (s : State) → end ≡ at + length bytes → IsFaultBefore end (run strict at s bytes)
    → run strict at s (bytes ++ more) ≡ run strict at s bytes
unfolding run
run_stays strict [] more at end s e h = absurd (finish_ends at s (subst (λ x. IsFaultBefore x (finish at s)) (let same : end ≡ at = omega (arith, e) in same) h))
run_stays strict (b ∷ bytes) more at end s e h = by (step strict at b s) h (λ t k. run_stays strict bytes more (at + 1) end t (omega (arith, e)) k)
  where
    by : (next : Step) → IsFaultBefore end (after_step next (λ t. run strict (at + 1) t bytes))
        → ((t : State) → IsFaultBefore end (run strict (at + 1) t bytes) → run strict (at + 1) t (bytes ++ more) ≡ run strict (at + 1) t bytes)
        → after_step next (λ t. run strict (at + 1) t (bytes ++ more)) ≡ after_step next (λ t. run strict (at + 1) t bytes)
    by (go t) k rest = rest t k
    by (stop end_of) k rest = refl

-- a fault that isn't that the bytes end is one before their end
fault_before : (bytes : List ℕ) (e : Stop) (f : JsonFault) (place : ℕ) → StopsBy e f place → f ≢ faults.Json (length bytes) → IsFaultBefore (length bytes) e
fault_before bytes (found v n) f place s other = s
fault_before bytes (bad n) f place s other = λ same. other (s.0 ∙ ap faults.Json same)
fault_before bytes (deep n) f place s other = tt
fault_before bytes (twice from n) f place s other = tt

-- a fault before the end is that of each longer text
pub fault_stays : FaultStays
fault_stays bytes more f other read =
    let stops = first_stops bytes f read in
    let same : reading (bytes ++ more) ≡ reading bytes = run_stays true bytes more 0 (length bytes) (due []) (omega arith) (fault_before bytes (reading bytes) f stops.0 stops.1 other) in
    stops_first (bytes ++ more) f stops.0 (subst (λ e. StopsBy e f stops.0) (sym same) stops.1)
