-- What the words of the lines of sides spell, and of all lines that may stand behind those of the edges.
use Rattle.std.proofs.Common.{◌≡◌, ◌≢◌, ℕ, ◌^◌, ◌<◌, List, [], ◌∷◌, ◌++◌, length, get_or, drop, refl, sym, ◌∙◌, ap, subst, arith}
use Rattle.std.specs.Prelude.{codes, decimal}
use Rattle.std.proofs.lemmas.List.{append_assoc}
use Rattle.std.proofs.lemmas.List.Elements.{All-append, All-head}
use Rattle.bt_text.specs.Lines.{Lacks, SplitsAt}
use Rattle.bt_text.proofs.FirstLines.{split_apart, SplitsAt-lacks}
use Rattle.bt_text.proofs.Lacking.{lacks}
use Rattle.bt_frac.proofs.Numerals.{decimal-lacks}
use Rattle.bt_net.specs.declared.network.Admitted.{Admitted}
use Rattle.bt_net.specs.declared.network.Block.{Block}
use Rattle.bt_net.specs.declared.network.Demand.{Demand}
use Rattle.bt_net.specs.declared.network.Demand.TheVariants as demand
use Rattle.bt_net.specs.declared.network.End.{End}
use Rattle.bt_net.specs.declared.network.End.TheVariants as end
use Rattle.bt_net.specs.declared.network.Ends.{Ends}
use Rattle.bt_net.specs.declared.network.Ends.TheVariants.{One, Inputs, Outputs}
use Rattle.bt_net.specs.declared.network.Pin.{Pin}
use Rattle.bt_net.specs.declared.network.EndKind.{EndKind}
use Rattle.bt_net.specs.declared.network.EndKind.TheVariants as kind
use Rattle.bt_net.specs.declared.network.Row.{Row}
use Rattle.bt_net.specs.declared.network.Side.{Side}
use Rattle.bt_net.specs.Network.{Network}
use Rattle.bt_net.specs.PinText.{end_text, ends_text, dir_text, side_text, kind_text, HasEnds, IsPinLine, IsSideLine, IsRowLine, IsDemandLine, IsDemandHere, IsBlockHere}
use Rattle.bt_net.specs.Wiring.{HasSmallSizes}
use Rattle.bt_net.specs.inner.Lines.{EndFits, EndsFit}
use Rattle.bt_net.proofs.PinSpelling.{end_fits, end-lacks, end_lacks_space, dir-lacks, end_apart, dir_apart, pin_apart, block_apart, pin_first, block_first, pin-lacks, block-lacks, some_bytes}

-- the ends of a small network are small
ends_fit : (n : Network) (e : Ends) → HasSmallSizes n → HasEnds n e → EndsFit e
ends_fit n (One e) small has = end_fits n e small has
ends_fit n Inputs small has = tt
ends_fit n Outputs small has = tt

-- no space and no line feed in the word of ends
ends_lack_space : (e : Ends) → EndsFit e → Lacks 32 (ends_text e)
ends_lack_space (One e) fits = end_lacks_space e fits
ends_lack_space Inputs fits = lacks 32 (codes "inputs") refl
ends_lack_space Outputs fits = lacks 32 (codes "outputs") refl

ends_lack_feed : (e : Ends) → EndsFit e → Lacks 10 (ends_text e)
ends_lack_feed (One e) fits = end-lacks 10 e fits (λ r. omega (arith, r.0)) (λ x. omega arith) (λ x. omega arith)
ends_lack_feed Inputs fits = lacks 10 (codes "inputs") refl
ends_lack_feed Outputs fits = lacks 10 (codes "outputs") refl

-- a number has no such letter
no_letter : (byte k : ℕ) (text : List ℕ) → k < 2 ^ 32 → 57 < byte → decimal k ≡ byte ∷ text → ⊥
no_letter byte k text fits letter is =
    All-head (λ b. b ≢ byte) byte text (subst (Lacks byte) is (decimal-lacks k byte (omega arith) (λ r. omega (arith, r.1)))) refl

-- a word is that of one end or of each of a kind
one_no_inputs : (e : End) → EndFits e → end_text e ≡ codes "inputs" → ⊥
one_no_inputs (end.Input i) fits is = no_letter 110 i (codes "puts") fits (omega arith) (ap (drop 1) is)
one_no_inputs (end.Output o) fits is = omega (arith, ap (λ l. get_or l 0 0) is)

one_no_outputs : (e : End) → EndFits e → end_text e ≡ codes "outputs" → ⊥
one_no_outputs (end.Input i) fits is = omega (arith, ap (λ l. get_or l 0 0) is)
one_no_outputs (end.Output o) fits is = no_letter 117 o (codes "tputs") fits (omega arith) (ap (drop 1) is)

pub ends_apart : (d e : Ends) → EndsFit d → EndsFit e → ends_text d ≡ ends_text e → d ≡ e
ends_apart (One d) (One e) p q is = ap One (end_apart d e p q is)
ends_apart (One d) Inputs p q is = absurd (one_no_inputs d p is)
ends_apart (One d) Outputs p q is = absurd (one_no_outputs d p is)
ends_apart Inputs (One e) p q is = absurd (one_no_inputs e q (sym is))
ends_apart Inputs Inputs p q is = refl
ends_apart Inputs Outputs p q is = absurd (omega (arith, ap (λ l. get_or l 0 0) is))
ends_apart Outputs (One e) p q is = absurd (one_no_outputs e q (sym is))
ends_apart Outputs Inputs p q is = absurd (omega (arith, ap (λ l. get_or l 0 0) is))
ends_apart Outputs Outputs p q is = refl

-- the words of a side behind its first
side_words : (bytes : List ℕ) (side : Side) → bytes ≡ side_text side → bytes ≡ codes "side " ++ (ends_text side.ends ++ 32 ∷ dir_text side.dir)
side_words bytes side is = is ∙ simp append_assoc

-- a side line that was cut behind its first word and its ends
pub cut_side : (n : Network) (number : ℕ) (bytes words front back : List ℕ) (side : Side) → HasSmallSizes n → bytes ≡ codes "side " ++ words → SplitsAt 32 words front back → IsSideLine n number bytes side
    → (front ≡ ends_text side.ends) × (back ≡ dir_text side.dir) × EndsFit side.ends
cut_side n number bytes words front back side small cut splits is =
    let fits = ends_fit n side.ends small is.has_ends in
    let same = split_apart 32 front (ends_text side.ends) back (dir_text side.dir) splits.first (ends_lack_space side.ends fits)
    (sym splits.text_is ∙ ap (drop 5) (sym cut ∙ side_words bytes side is.text)) in
    (same.0, same.1, fits)

pub side_space : (n : Network) (number : ℕ) (bytes words : List ℕ) (side : Side) → HasSmallSizes n → IsSideLine n number bytes side → bytes ≡ codes "side " ++ words → Lacks 32 words → ⊥
side_space n number bytes words side small is cut none =
    let splits : SplitsAt 32 words (ends_text side.ends) (dir_text side.dir) =
    record { first = ends_lack_space side.ends (ends_fit n side.ends small is.has_ends); text_is = ap (drop 5) (sym cut ∙ side_words bytes side is.text) } in
    SplitsAt-lacks splits none

-- a line is that of one side
side_apart : (n : Network) → HasSmallSizes n → (number : ℕ) (bytes : List ℕ) (p q : Side) → IsSideLine n number bytes p → IsSideLine n number bytes q → p ≡ q
side_apart n small number bytes p q a b =
    let fits = ends_fit n p.ends small a.has_ends in
    let splits : SplitsAt 32 (ends_text p.ends ++ 32 ∷ dir_text p.dir) (ends_text p.ends) (dir_text p.dir) = record { first = ends_lack_space p.ends fits; text_is = refl } in
    let same = cut_side n number bytes (ends_text p.ends ++ 32 ∷ dir_text p.dir) (ends_text p.ends) (dir_text p.dir) q small (side_words bytes p a.text) splits b in
    let ends = ends_apart p.ends q.ends fits same.2 same.0 in
    let dir = dir_apart p.dir q.dir same.1 in
    let line = a.line ∙ sym b.line in
    λ i. record { ends = ends i; dir = dir i; line = line i }

-- side lines have bytes, of which the first tells them apart, and no line feed
side_first : (n : Network) (number : ℕ) (bytes : List ℕ) (side : Side) → IsSideLine n number bytes side → get_or bytes 0 0 ≡ 115
side_first n number bytes side is = ap (λ l. get_or l 0 0) (side_words bytes side is.text)

side-lacks : (n : Network) → HasSmallSizes n → (number : ℕ) (bytes : List ℕ) (side : Side) → IsSideLine n number bytes side → Lacks 10 bytes
side-lacks n small number bytes side is =
    let P : ℕ → Type 0 = λ b. b ≢ 10 in
    subst (Lacks 10) (sym is.text)
    (All-append P (codes "side " ++ ends_text side.ends ++ codes " ") (dir_text side.dir)
    (All-append P (codes "side " ++ ends_text side.ends) (codes " ")
    (All-append P (codes "side ") (ends_text side.ends) (lacks 10 (codes "side ") refl) (ends_lack_feed side.ends (ends_fit n side.ends small is.has_ends)))
    (lacks 10 (codes " ") refl)) (dir-lacks side.dir))

-- ---- rows

-- a word is that of one kind
kind_apart : (k l : EndKind) → kind_text k ≡ kind_text l → k ≡ l
kind_apart kind.Inputs kind.Inputs is = refl
kind_apart kind.Inputs kind.Outputs is = absurd (omega (arith, ap (λ w. get_or w 0 0) is))
kind_apart kind.Outputs kind.Inputs is = absurd (omega (arith, ap (λ w. get_or w 0 0) is))
kind_apart kind.Outputs kind.Outputs is = refl

kind_lacks_feed : (k : EndKind) → Lacks 10 (kind_text k)
kind_lacks_feed kind.Inputs = lacks 10 (codes "inputs") refl
kind_lacks_feed kind.Outputs = lacks 10 (codes "outputs") refl

-- a line is that of one row
pub row_apart : (number : ℕ) (bytes : List ℕ) (p q : Row) → IsRowLine number bytes p → IsRowLine number bytes q → p ≡ q
row_apart number bytes p q a b =
    let same = kind_apart p.kind q.kind (ap (drop 4) (sym a.text ∙ b.text)) in
    let line = a.line ∙ sym b.line in
    λ i. record { kind = same i; line = line i }

row_first : (number : ℕ) (bytes : List ℕ) (row : Row) → IsRowLine number bytes row → get_or bytes 0 0 ≡ 114
row_first number bytes row is = ap (λ l. get_or l 0 0) is.text

row-lacks : (number : ℕ) (bytes : List ℕ) (row : Row) → IsRowLine number bytes row → Lacks 10 bytes
row-lacks number bytes row is = subst (Lacks 10) (sym is.text) (All-append (λ b. b ≢ 10) (codes "row ") (kind_text row.kind) (lacks 10 (codes "row ") refl) (kind_lacks_feed row.kind))

-- a row line that was cut behind its first word
pub cut_row : (number : ℕ) (bytes words : List ℕ) (row : Row) → bytes ≡ codes "row " ++ words → IsRowLine number bytes row → words ≡ kind_text row.kind
cut_row number bytes words row cut is = ap (drop 4) (sym cut ∙ is.text)

-- ---- the same of all lines that may stand behind those of the edges

pin_no_side : (n : Network) (number : ℕ) (bytes : List ℕ) (pin : Pin) (side : Side) → IsPinLine n number bytes pin → IsSideLine n number bytes side → ⊥
pin_no_side n number bytes pin side a b = omega (arith, pin_first n number bytes pin a, side_first n number bytes side b)

pin_no_row : (n : Network) (number : ℕ) (bytes : List ℕ) (pin : Pin) (row : Row) → IsPinLine n number bytes pin → IsRowLine number bytes row → ⊥
pin_no_row n number bytes pin row a b = omega (arith, pin_first n number bytes pin a, row_first number bytes row b)

side_no_row : (n : Network) (number : ℕ) (bytes : List ℕ) (side : Side) (row : Row) → IsSideLine n number bytes side → IsRowLine number bytes row → ⊥
side_no_row n number bytes side row a b = omega (arith, side_first n number bytes side a, row_first number bytes row b)

demand_apart : (n : Network) → HasSmallSizes n → (number : ℕ) (bytes : List ℕ) (p q : Demand) → IsDemandLine n number bytes p → IsDemandLine n number bytes q → p ≡ q
demand_apart n small number bytes (demand.Pin p) (demand.Pin q) a b = ap demand.Pin (pin_apart n small number bytes p q a b)
demand_apart n small number bytes (demand.Pin p) (demand.Side q) a b = absurd (pin_no_side n number bytes p q a b)
demand_apart n small number bytes (demand.Pin p) (demand.Row q) a b = absurd (pin_no_row n number bytes p q a b)
demand_apart n small number bytes (demand.Side p) (demand.Pin q) a b = absurd (pin_no_side n number bytes q p b a)
demand_apart n small number bytes (demand.Side p) (demand.Side q) a b = ap demand.Side (side_apart n small number bytes p q a b)
demand_apart n small number bytes (demand.Side p) (demand.Row q) a b = absurd (side_no_row n number bytes p q a b)
demand_apart n small number bytes (demand.Row p) (demand.Pin q) a b = absurd (pin_no_row n number bytes q p b a)
demand_apart n small number bytes (demand.Row p) (demand.Side q) a b = absurd (side_no_row n number bytes q p b a)
demand_apart n small number bytes (demand.Row p) (demand.Row q) a b = ap demand.Row (row_apart number bytes p q a b)

demand_first : (n : Network) (number : ℕ) (bytes : List ℕ) (d : Demand) → IsDemandLine n number bytes d → (111 < get_or bytes 0 0) × (get_or bytes 0 0 < 116)
demand_first n number bytes (demand.Pin pin) is = (omega (arith, pin_first n number bytes pin is), omega (arith, pin_first n number bytes pin is))
demand_first n number bytes (demand.Side side) is = (omega (arith, side_first n number bytes side is), omega (arith, side_first n number bytes side is))
demand_first n number bytes (demand.Row row) is = (omega (arith, row_first number bytes row is), omega (arith, row_first number bytes row is))

demand-lacks : (n : Network) → HasSmallSizes n → (number : ℕ) (bytes : List ℕ) (d : Demand) → IsDemandLine n number bytes d → Lacks 10 bytes
demand-lacks n small number bytes (demand.Pin pin) is = pin-lacks n small number bytes pin is
demand-lacks n small number bytes (demand.Side side) is = side-lacks n small number bytes side is
demand-lacks n small number bytes (demand.Row row) is = row-lacks number bytes row is

pub demand_here_apart : (may : Admitted) (n : Network) → HasSmallSizes n → (number : ℕ) (bytes : List ℕ) (p q : Demand) → IsDemandHere may n number bytes p → IsDemandHere may n number bytes q → p ≡ q
demand_here_apart may n small number bytes p q a b = demand_apart n small number bytes p q a.1 b.1

pub demand_here_first : (may : Admitted) (n : Network) (number : ℕ) (bytes : List ℕ) (d : Demand) → IsDemandHere may n number bytes d → 111 < get_or bytes 0 0
demand_here_first may n number bytes d is = (demand_first n number bytes d is.1).0

pub demand_here_low : (may : Admitted) (n : Network) (number : ℕ) (bytes : List ℕ) (d : Demand) → IsDemandHere may n number bytes d → get_or bytes 0 0 < 116
demand_here_low may n number bytes d is = (demand_first n number bytes d is.1).1

pub demand_here-lacks : (may : Admitted) (n : Network) → HasSmallSizes n → (number : ℕ) (bytes : List ℕ) (d : Demand) → IsDemandHere may n number bytes d → Lacks 10 bytes
demand_here-lacks may n small number bytes d is = demand-lacks n small number bytes d is.1

has_bytes : (bytes : List ℕ) → 111 < get_or bytes 0 0 → 0 < length bytes
has_bytes [] big = absurd (omega (arith, big))
has_bytes (b ∷ bytes) big = omega arith

pub demand_here-some : (may : Admitted) (n : Network) (number : ℕ) (bytes : List ℕ) (d : Demand) → IsDemandHere may n number bytes d → 0 < length bytes
demand_here-some may n number bytes d is = has_bytes bytes (demand_here_first may n number bytes d is)

pub block_here_apart : (may : Admitted) (number : ℕ) (bytes : List ℕ) (p q : Block) → IsBlockHere may number bytes p → IsBlockHere may number bytes q → p ≡ q
block_here_apart may number bytes p q a b = block_apart number bytes p q a.1 b.1

pub block_here_first : (may : Admitted) (number : ℕ) (bytes : List ℕ) (block : Block) → IsBlockHere may number bytes block → get_or bytes 0 0 ≡ 98
block_here_first may number bytes block is = block_first number bytes block is.1

pub block_here-lacks : (may : Admitted) (number : ℕ) (bytes : List ℕ) (block : Block) → IsBlockHere may number bytes block → Lacks 10 bytes
block_here-lacks may number bytes block is = block-lacks number bytes block is.1

pub block_here-some : (may : Admitted) (number : ℕ) (bytes : List ℕ) (block : Block) → IsBlockHere may number bytes block → 0 < length bytes
block_here-some may number bytes block is = some_bytes bytes 98 (block_here_first may number bytes block is) (omega arith)
