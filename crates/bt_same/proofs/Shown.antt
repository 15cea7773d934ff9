-- What is written of a pair that shows a difference is read as that pair, and it is judged so, unless a sum leaves 128
-- bits.
use Rattle.std.proofs.Common.{ℕ, Ok, Err, inl, inr, refl}
use Rattle.bt_net.specs.Network.{Network}
use Rattle.bt_flow.specs.declared.judgement.Test.{Test}
use Rattle.bt_flow.specs.declared.judgement.Judgement.TheVariants as of_state
use Rattle.bt_flow.specs.States.{Flows, Fractions, StandsFor}
use Rattle.bt_flow.specs.Steady.{IsSteady}
use Rattle.bt_flow.specs.Properties.{IsAdmissible}
use Rattle.bt_flow.specs.Judging.{IsStateAnswer}
use Rattle.bt_flow.proofs.Fitting.{state_fits}
use Rattle.bt_flow.proofs.OneAnswer.{state_passes}
use Rattle.bt_same.specs.declared.pair.Which.TheVariants.{First, Second, Kept}
use Rattle.bt_same.specs.declared.pair.PairJudgement.TheVariants.{Holds, Fails}
use Rattle.bt_same.specs.PairReading.{ShownPairIsRead}
use Rattle.bt_same.specs.Judging.{ShownPairHolds}
use Rattle.bt_same.proofs.Pairs.{alike_fed}
use Rattle.bt_same.proofs.PairTexts.{printed_is_read}

pub shown_pair_is_read : ShownPairIsRead
shown_pair_is_read a b pair first second ends lowest lowest' shows =
    let some = shows.some in
    let s = some.0 in
    let t = some.1.0 in
    let both = some.1.1 in
    let fits = state_fits a pair.first s both.first in
    let fits' = state_fits b pair.second t both.second in
    let alike = alike_fed a b first second ends pair.first pair.second lowest lowest' fits fits' s t both (shows.each s t both).fed in
    printed_is_read a b pair lowest lowest' alike fits fits'

-- no test of an admissible steady state fails
never_fails : (n : Network) (t : Fractions) (s : Flows) → StandsFor n t s → IsAdmissible n s → IsSteady n s → (test : Test) (at : ℕ)
    → IsStateAnswer n t (Ok (of_state.Fails test at)) → ⊥
never_fails n t s stands admissible steady test at h =
    let first = h.0.each s stands in
    first.fails (state_passes n s (admissible, steady) test at first.among.1 first.place)

pub shown_pair_holds : ShownPairHolds
shown_pair_holds a b x y (Ok Holds) shows h = inl refl
shown_pair_holds a b x y (Ok (Fails First test at)) shows h =
    let some = shows.some in
    let d = shows.each some.0 some.1.0 some.1.1 in
    absurd (never_fails a x some.0 some.1.1.first d.first.admissible d.first.steady test at h)
shown_pair_holds a b x y (Ok (Fails Second test at)) shows h =
    let some = shows.some in
    let d = shows.each some.0 some.1.0 some.1.1 in
    absurd (never_fails b y some.1.0 some.1.1.second d.second.admissible d.second.steady test at h.1)
shown_pair_holds a b x y (Ok (Fails Kept test at)) shows h =
    let some = shows.some in
    absurd (h.4.each some.0 some.1.0 some.1.1 (shows.each some.0 some.1.0 some.1.1))
shown_pair_holds a b x y (Err wide) shows h = inr (wide, refl)
