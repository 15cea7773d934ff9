-- Two networks behave the same exactly where no pair shows a difference, since whether two flows are equal is decided,
-- and any two states can be put over one denominator.
use Rattle.std.proofs.Common.{◌≡◌, ℕ, ◌<◌, ℤ, pos, ◌*ℤ◌, List, [], ◌∷◌, map, inl, inr, ap, sym, ◌∙◌, refl, subst}
use Rattle.std.specs.List.{AllZip}
use Rattle.std.proofs.Math.Nat.{mul_comm}
use Rattle.bt_frac.proofs.Order.{mul_cancel}
use Rattle.bt_net.specs.Network.{Network}
use Rattle.bt_flow.specs.States.{Flows, flow_at}
use Rattle.bt_flow.specs.Scaling.{scaled}
use Rattle.bt_flow.proofs.Decided.{same_or}
use Rattle.bt_flow.proofs.Scaled.{flow_times, scaled_is_steady}
use Rattle.bt_same.specs.Sameness.{AreEqual, AreFedEqually, AreFedAlike, GiveAlike, GiveEqually}
use Rattle.bt_same.specs.Laws.{SameExactly}

-- equal numbers over two denominators are, put over one, the same whole numbers
times_same : (d e : ℕ) (xs ys : List ℤ) → AllZip (λ x y. x *ℤ pos e ≡ y *ℤ pos d) xs ys → map (λ x. x *ℤ pos e) xs ≡ map (λ y. y *ℤ pos d) ys
times_same d e [] [] h = refl
times_same d e [] (y ∷ ys) h = absurd h
times_same d e (x ∷ xs) [] h = absurd h
times_same d e (x ∷ xs) (y ∷ ys) h =
    ap (λ z. z ∷ map (λ w. w *ℤ pos e) xs) h.0 ∙ ap (λ zs. (y *ℤ pos d) ∷ zs) (times_same d e xs ys h.1)

-- the same whole numbers over one denominator are equal numbers
same_equal : (d e : ℕ) (xs : List ℤ) → d ≡ e → AllZip (λ x y. x *ℤ pos e ≡ y *ℤ pos d) xs xs
same_equal d e [] h = tt
same_equal d e (x ∷ xs) h = (ap (λ k. x *ℤ pos k) (sym h), same_equal d e xs h)

put_over_one : (s t : Flows) → AreFedEqually s t → AreFedAlike (scaled t.denominator s) (scaled s.denominator t)
put_over_one s t fed = record {
  denominator = mul_comm s.denominator t.denominator;
  loads = times_same s.denominator t.denominator s.loads t.loads fed.loads;
  rooms = times_same s.denominator t.denominator s.rooms t.rooms fed.rooms;
}

fed_equally : (s t : Flows) → AreFedAlike s t → AreFedEqually s t
fed_equally s t fed = record {
  loads = subst (AllZip (AreEqual s t) s.loads) fed.loads (same_equal s.denominator t.denominator s.loads fed.denominator);
  rooms = subst (AllZip (AreEqual s t) s.rooms) fed.rooms (same_equal s.denominator t.denominator s.rooms fed.denominator);
}

give_alike : (a b : Network) (s t : Flows) → 0 < t.denominator → s.denominator ≡ t.denominator → GiveEqually a b s t → GiveAlike a b s t
give_alike a b s t some same give o x y e f h g p q =
    mul_cancel (flow_at s x) (flow_at t y) t.denominator some (give o x y e f h g p q ∙ ap (λ d. flow_at t y *ℤ pos d) same)

pub same_exactly : SameExactly
same_exactly a b = (
  λ same s t shows.
      shows.fails (give_alike a b s t shows.second.state.positive shows.fed.denominator (same s t shows.first shows.second (fed_equally s t shows.fed))),
  λ none s t first second fed o x y e f h g p q.
      let s' = scaled t.denominator s in
      let t' = scaled s.denominator t in
      elim (same_or (flow_at s' x) (flow_at t' y)) [
        | inl z ↦ sym (flow_times t.denominator s x) ∙ z ∙ flow_times s.denominator t y
        | inr apart ↦ absurd (none s' t' (record {
          first = scaled_is_steady a s t.denominator second.state.positive first;
          second = scaled_is_steady b t s.denominator first.state.positive second;
          fed = put_over_one s t fed;
          fails = λ alike. apart (alike o x y e f h g p q);
        }))
      ],
)
