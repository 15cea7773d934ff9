-- What the judgement of a pair says.
use Rattle.std.specs.Prelude.{◌≡◌, ◌⊎◌, ℕ, Result, Ok, Err}
use Rattle.bt_net.specs.Network.{Network}
use Rattle.bt_flow.specs.declared.judgement.Test.{Test}
use Rattle.bt_flow.specs.declared.judgement.Test.TheVariants.{Conclusion}
use Rattle.bt_flow.specs.declared.judgement.Judgement.TheVariants as of_state
use Rattle.bt_flow.specs.declared.judgement.WideSum.{WideSum}
use Rattle.bt_flow.specs.States.{Fractions}
use Rattle.bt_flow.specs.Judging.{IsStateAnswer}
use Rattle.bt_same.specs.declared.pair.Which.{Which}
use Rattle.bt_same.specs.declared.pair.Which.TheVariants.{First, Second, Kept}
use Rattle.bt_same.specs.declared.pair.PairJudgement.{PairJudgement}
use Rattle.bt_same.specs.declared.pair.PairJudgement.TheVariants.{Holds, Fails}
use Rattle.bt_same.specs.declared.pair.PairWide.{PairWide}
use Rattle.bt_same.specs.Pairs.{IsTrueOfBoth}
use Rattle.bt_same.specs.Sameness.{ShowsDifference}

-- the state passes the tests of loads and rooms and the nine laws, and forms no sum that leaves 128 bits
abbrev pub Passes : Network → Fractions → Type 0
Passes n t = IsStateAnswer n t (Ok of_state.Passes)

-- this test is the first that fails: of the first state, of the second where the first passes, or where both pass, that
-- the pair shows a difference
abbrev pub IsFirstFailed : Network → Network → Fractions → Fractions → Which → Test → ℕ → Type 0
IsFirstFailed a b x y First test at = IsStateAnswer a x (Ok (of_state.Fails test at))
IsFirstFailed a b x y Second test at = Passes a x × IsStateAnswer b y (Ok (of_state.Fails test at))
IsFirstFailed a b x y Kept test at =
    Passes a x × Passes b y × (test ≡ Conclusion) × (at ≡ 0) × IsTrueOfBoth a b x y (λ s t. ShowsDifference a b s t → ⊥)

-- this sum is the first that leaves 128 bits, and no test fails before: of the first state, or of the second where the
-- first passes
abbrev pub IsFirstWideSum : Network → Network → Fractions → Fractions → Which → WideSum → Type 0
IsFirstWideSum a b x y First sum = IsStateAnswer a x (Err sum)
IsFirstWideSum a b x y Second sum = Passes a x × IsStateAnswer b y (Err sum)
IsFirstWideSum a b x y Kept sum = ⊥

-- the right answer of `differs`: all tests pass, and the pair shows a difference; or the first test that fails; or the
-- first wide sum
abbrev pub IsPairAnswer : Network → Network → Fractions → Fractions → Result PairJudgement PairWide → Type 0
IsPairAnswer a b x y (Ok Holds) = Passes a x × Passes b y × IsTrueOfBoth a b x y (ShowsDifference a b)
IsPairAnswer a b x y (Ok (Fails place test at)) = IsFirstFailed a b x y place test at
IsPairAnswer a b x y (Err wide) = IsFirstWideSum a b x y wide.place wide.sum

-- of a pair that shows a difference no test fails: it is judged so, unless a sum leaves 128 bits
abbrev pub ShownPairHolds : Type 0
ShownPairHolds = (a b : Network) (x y : Fractions) (told : Result PairJudgement PairWide) → IsTrueOfBoth a b x y (ShowsDifference a b) → IsPairAnswer a b x y told
    → (told ≡ Ok Holds) ⊎ ((wide : PairWide) × (told ≡ Err wide))
