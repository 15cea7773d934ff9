-- Two designs, one behind the other, whose networks are to be compared.
use Rattle.std.specs.Prelude.{◌≡◌, ℕ, ◌+◌, ◌-◌, All, List, length, drop, ◌⊎◌, Result, Ok, Err}
use Rattle.bt_text.specs.Answers.{seen}
use Rattle.bt_text.specs.Blanks.{SkipsBlanks}
use Rattle.bt_net.specs.Network.{Network}
use Rattle.bt_net.specs.declared.network.Edge.{Edge}
use Rattle.bt_net.specs.declared.network.Start.TheVariants.{Input}
use Rattle.bt_net.specs.declared.network.Target.TheVariants.{Output}
use Rattle.bt_same.specs.Sameness.{HaveEqualEnds}
use Rattle.bt_designs.specs.declared.fault.DesignFault.{DesignFault}
use Rattle.bt_designs.specs.declared.fault.DesignFault.TheVariants.{Refused}
use Rattle.bt_designs.specs.declared.refusal.Refusal.TheVariants.{Ends}
use Rattle.bt_designs.specs.Alone.{IsAlone}
use Rattle.bt_designs.specs.Designs.{IsBareDesign}
use Rattle.bt_designs.specs.Steps.{InTurn}

-- two edges are of one end: they start at inputs of one number, or end at outputs of one number
abbrev pub AreOfOneEnd : Edge → Edge → Type 0
AreOfOneEnd one other = ((k : ℕ) × (one.start ≡ Input k) × (other.start ≡ Input k)) ⊎ ((k : ℕ) × (one.target ≡ Output k) × (other.target ≡ Output k))

-- where two edges are of one end, they have equal caps
pub record HaveCapsAlike (one other : Edge) : Type 0 where
  pub caps : AreOfOneEnd one other → one.cap ≡ other.cap

-- the edge has the cap of each edge of the network that is of one end with it
abbrev pub IsCappedAlike : Network → Edge → Type 0
IsCappedAlike net edge = All (HaveCapsAlike edge) net.edges

-- two networks have equal numbers of inputs and of outputs, and the edges at those of one number have equal caps: so
-- what either admits as loads and rooms the other does
pub record HaveSameEnds (a b : Network) : Type 0 where
  pub counts : HaveEqualEnds a b
  pub caps : All (IsCappedAlike b) a.edges

-- what comes of two networks: both, where they have the same ends, and else the refusal of their ends
abbrev pub IsPaired : Network → Network → Result (Network × Network) DesignFault → Type 0
IsPaired a b answer = (HaveSameEnds a b × (answer ≡ Ok (a, b))) ⊎ ((HaveSameEnds a b → ⊥) × (answer ≡ Err (Refused Ends)))

-- what comes of what follows a first network, behind blanks: the first refusal, of the second design, then of what
-- follows it, then of the ends; or both networks. The lines and the offsets are counted from where the second design
-- begins
abbrev pub IsSecondNet : Network → List ℕ → ℕ → Result (Network × Network) DesignFault → Type 0
IsSecondNet a bytes used answer = (text : List ℕ) × SkipsBlanks (drop used bytes) text × InTurn (IsAlone IsBareDesign text) Err (IsPaired a) answer

-- what comes of bytes that are to be two designs alone: the refusal of the first, or what comes of what follows it
abbrev pub IsTwoNets : List ℕ → Result (Network × Network) DesignFault → Type 0
IsTwoNets bytes = InTurn (IsBareDesign bytes) Err (λ found. IsSecondNet found.0 bytes found.1)

-- what comes of a text with a second design at its front, behind so many bytes: the first refusal, of the design, then
-- of the ends; or both networks and the place after the design
abbrev pub IsSecondFront : Network → ℕ → List ℕ → Result ((Network × Network) × ℕ) DesignFault → Type 0
IsSecondFront a before text = InTurn (IsBareDesign text) Err (λ found answer.
    (nets : Result (Network × Network) DesignFault) × IsPaired a found.0 nets × (answer ≡ seen (λ n. (n, before + found.1)) nets))

-- what comes of what follows a first network and its design's so many bytes, behind blanks
abbrev pub IsBehindFirst : Network → List ℕ → ℕ → Result ((Network × Network) × ℕ) DesignFault → Type 0
IsBehindFirst a bytes used answer = (text : List ℕ) × SkipsBlanks (drop used bytes) text × IsSecondFront a (length bytes - length text) text answer

-- what comes of bytes with two designs at their front: the refusal of the first, or what comes of what follows it
abbrev pub IsFrontNets : List ℕ → Result ((Network × Network) × ℕ) DesignFault → Type 0
IsFrontNets bytes = InTurn (IsBareDesign bytes) Err (λ found. IsBehindFirst found.0 bytes found.1)
