-- What reading a pair of states answers.
use Rattle.std.specs.Prelude.{ℕ, List, [], ◌∷◌, codes, length, Result, Ok, Err}
use Rattle.bt_net.specs.Network.{Network, IsNetwork}
use Rattle.bt_flow.specs.declared.fault.StateFault.{StateFault}
use Rattle.bt_flow.specs.declared.fault.StateFault.TheVariants.{CertLine, Memory}
use Rattle.bt_flow.specs.States.{AreLowest, Fits}
use Rattle.bt_flow.specs.StateLines.{Form, just, numbers, marks, IsFirstWrongLine}
use Rattle.bt_same.specs.declared.pair.Pair.{Pair}
use Rattle.bt_same.specs.Sameness.{HaveEqualEnds, ShowsDifference}
use Rattle.bt_same.specs.Pairs.{AreAlike, IsTrueOfBoth}
use Rattle.bt_same.specs.PairText.{printed_pair, IsPairText}

-- the forms of the eight lines: loads and rooms are those of the first network, which are as many as the second's
abbrev pub pair_forms : Network → Network → List Form
pair_forms a b =
    just (codes "differ")
    ∷ numbers (codes "load") a.inputs
    ∷ numbers (codes "room") a.outputs
    ∷ numbers (codes "flow") (length a.edges)
    ∷ marks (length a.edges)
    ∷ numbers (codes "flow") (length b.edges)
    ∷ marks (length b.edges)
    ∷ just (codes "end")
    ∷ []

-- the right answer to bytes: the pair of states of the networks that they write, or the first line that isn't the one
-- that belongs there
abbrev pub IsPairRead : Network → Network → List ℕ → Result Pair StateFault → Type 0
IsPairRead a b bytes (Ok pair) = Fits a pair.first × Fits b pair.second × IsPairText pair bytes
IsPairRead a b bytes (Err (CertLine line)) = IsFirstWrongLine (pair_forms a b) bytes line
IsPairRead a b bytes (Err Memory) = ⊥

-- what is written of a pair with equal loads and rooms, in lowest terms, that fits the networks is read as that pair
abbrev pub PrintedPairIsRead : Type 0
PrintedPairIsRead = (a b : Network) (pair : Pair) → AreLowest pair.first → AreLowest pair.second → AreAlike pair.first pair.second
    → Fits a pair.first → Fits b pair.second → IsPairRead a b (printed_pair pair) (Ok pair)

-- what is written of a pair that shows a difference, in lowest terms, is read as that pair
abbrev pub ShownPairIsRead : Type 0
ShownPairIsRead = (a b : Network) (pair : Pair) → IsNetwork a → IsNetwork b → HaveEqualEnds a b → AreLowest pair.first → AreLowest pair.second
    → IsTrueOfBoth a b pair.first pair.second (ShowsDifference a b) → IsPairRead a b (printed_pair pair) (Ok pair)
