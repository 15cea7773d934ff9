-- Where the edges of all outputs have one cap, outputs that share fairly and are open carry the same.
use Rattle.std.proofs.Common.{◌≡◌, ℕ, ◌+◌, ◌*◌, ◌⊎◌, inl, inr, IsTrue, true, ℤ, pos, ◌≤ℤ◌, ◌<ℤ◌, ap, sym, ◌∙◌, refl, arith}
use Rattle.std.proofs.lemmas.Int.{ints}
use Rattle.std.proofs.lemmas.Bool.{false≢true, cases_lt}
use Rattle.std.proofs.lemmas.Option.{slice_get_within, get_or_from_slice_get}
use borrow.Author.Differences.{up, down}
use Rattle.bt_net.specs.declared.network.Edge.{Edge}
use Rattle.bt_net.specs.declared.network.Start.{Start}
use Rattle.bt_net.specs.declared.network.Target.{Target}
use Rattle.bt_net.specs.declared.network.Target.TheVariants as to
use Rattle.bt_net.specs.Network.{Network, IsNetwork, is_output}
use Rattle.bt_flow.specs.declared.property.Property.TheVariants.{Balanced}
use Rattle.bt_flow.specs.declared.ports.Role.TheVariants.{ToOutput}
use Rattle.bt_flow.specs.States.{Flows, flow_at, room_at, cap_in}
use Rattle.bt_flow.specs.Steady.{HasEdge, IsSteady}
use Rattle.bt_flow.specs.Properties.{Meets, SharesFairly, is_last}
use Rattle.bt_flow.specs.Fairness.{HaveOutputCap, FairIsBalanced}
use Rattle.bt_flow.proofs.Numbers.{within}

at_most_or : (x y : ℤ) → (x ≤ℤ y) ⊎ (y <ℤ x)
at_most_or x y = elim (cases_lt (up y + down x) (up x + down y)) [ inl l ↦ inr (omega (arith, ints, l)) | inr l ↦ inl (omega (arith, ints, l)) ]

-- the edge of an output ends at one
ends : (o : ℕ) (e : Edge) → IsTrue (is_output o e) → is_last e ≡ true
ends o e t = at_target e.start e.target e.cap t
  where
    at_target : (st : Start) (tg : Target) (c : ℕ) → IsTrue (is_output o (record { start = st; target = tg; cap = c })) → is_last (record { start = st; target = tg; cap = c }) ≡ true
    at_target st (to.Output p) c t = refl
    at_target st (to.Split k) c t = absurd (false≢true t)

module _ (n : Network) (cap : ℕ) (is : IsNetwork n) (caps : HaveOutputCap n cap) (s : Flows) (meets : Meets Balanced n s) (steady : IsSteady n s) (shares : SharesFairly n s) where
  at_most : (o p a b : ℕ) (e f : Edge) → HasEdge n a e → HasEdge n b f → IsTrue (is_output o e) → IsTrue (is_output p f) → flow_at s b ≤ℤ flow_at s a
  at_most o p a b e f h g t u =
      let l = slice_get_within n.edges a e h in
      let few = within n ToOutput is a o e l (ap (is_output o) (get_or_from_slice_get n.edges a e e h) ∙ t) in
      let room : room_at s o ≡ cap_in s e = meets.rooms refl o few a e h t in
      let same : cap_in s f ≡ cap_in s e = ap (λ c. pos (c * s.denominator)) (caps b f g (ends p f u) ∙ sym (caps a e h (ends o e t))) in
      let most : flow_at s b ≤ℤ cap_in s f = (steady.range b (slice_get_within n.edges b f g) f g).1 in
      elim (at_most_or (cap_in s e) (flow_at s a)) [
        | inl full ↦ omega (arith, ints, full, same, most)
        | inr less ↦ shares o p a b e f h g t u (omega (arith, ints, less, room))
      ]

pub fair_is_balanced : FairIsBalanced
fair_is_balanced n cap is caps fair s state admissible meets steady = λ o p a b e f h g t u.
    let shares = fair s state admissible (record { loads = λ t. absurd (false≢true t); rooms = λ t. absurd (false≢true t) }) steady in
    let one = at_most n cap is caps s meets steady shares o p a b e f h g t u in
    let other = at_most n cap is caps s meets steady shares p o b a f e g h u t in
    omega (arith, ints, one, other)
