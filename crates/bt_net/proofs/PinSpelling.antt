-- What the words of the lines of pins, sides and blocks spell.
use Rattle.std.proofs.Common.{◌≡◌, ◌≢◌, ℕ, ◌^◌, ◌<◌, List, [], ◌∷◌, ◌++◌, Option, Some, None, length, get_or, drop, refl, sym, ◌∙◌, ap, subst, arith}
use Rattle.std.specs.Prelude.{codes, decimal}
use Rattle.std.specs.Int.{IsInRange}
use Rattle.std.proofs.lemmas.List.{append_assoc, append-nil}
use Rattle.std.proofs.lemmas.List.Elements.{All-cons, All-append, All-nil}
use Rattle.bt_text.specs.Lines.{Lacks, SplitsAt}
use Rattle.bt_text.proofs.FirstLines.{split_apart, SplitsAt-lacks}
use Rattle.bt_frac.proofs.Numerals.{decimal_apart, decimal-lacks}
use Rattle.bt_parts.specs.declared.part.Dir.{Dir}
use Rattle.bt_parts.specs.declared.part.Dir.TheVariants.{North, East, South, West}
use Rattle.bt_net.specs.declared.network.Block.{Block}
use Rattle.bt_net.specs.declared.network.Edge.{Edge}
use Rattle.bt_net.specs.declared.network.End.{End}
use Rattle.bt_net.specs.declared.network.End.TheVariants as end
use Rattle.bt_net.specs.declared.network.Pin.{Pin}
use Rattle.bt_net.specs.declared.network.TheConstants.{NO_COORDINATE}
use Rattle.bt_net.specs.Network.{Network, HasEnd}
use Rattle.bt_net.specs.NetText.{IsEdgeLine}
use Rattle.bt_net.specs.PinText.{end_text, dir_text, way_text, pin_text, block_text, IsPinLine, IsBlockLine}
use Rattle.bt_net.specs.Wiring.{HasSmallSizes}
use Rattle.bt_net.specs.inner.Lines.{EndFits}
use Rattle.bt_net.specs.inner.PinWords.{AreRowAndWay, AreCellAndWay}
use Rattle.bt_text.proofs.Lacking.{lacks}
use Rattle.bt_net.proofs.Spelling.{edge_words}

-- the ends that a small network has are small
pub end_fits : (n : Network) (e : End) → HasSmallSizes n → HasEnd n e → EndFits e
end_fits n (end.Input i) small has = omega (arith, small.few_inputs, has)
end_fits n (end.Output o) small has = omega (arith, small.few_outputs, has)

-- no such byte in the word of an end
pub end-lacks : (byte : ℕ) (e : End) → EndFits e → ¬ IsInRange 48 57 byte → byte ≢ 105 → byte ≢ 111 → Lacks byte (end_text e)
end-lacks byte (end.Input i) fits digit apart_i apart_o = All-cons (λ b. b ≢ byte) 105 (decimal i) (λ e. apart_i (sym e)) (decimal-lacks i byte (omega arith) digit)
end-lacks byte (end.Output o) fits digit apart_i apart_o = All-cons (λ b. b ≢ byte) 111 (decimal o) (λ e. apart_o (sym e)) (decimal-lacks o byte (omega arith) digit)

pub end_lacks_space : (e : End) → EndFits e → Lacks 32 (end_text e)
end_lacks_space e fits = end-lacks 32 e fits (λ r. omega (arith, r.0)) (λ x. omega arith) (λ x. omega arith)

number_lacks_space : (n : ℕ) → n < NO_COORDINATE → Lacks 32 (decimal n)
number_lacks_space n short = decimal-lacks n 32 (omega arith) (λ r. omega (arith, r.0))

-- no line feed in the word of a direction
pub dir-lacks : (dir : Dir) → Lacks 10 (dir_text dir)
dir-lacks North = lacks 10 (codes "north") refl
dir-lacks East = lacks 10 (codes "east") refl
dir-lacks South = lacks 10 (codes "south") refl
dir-lacks West = lacks 10 (codes "west") refl

way-lacks : (way : Option Dir) → Lacks 10 (way_text way)
way-lacks None = All-nil (λ b. b ≢ 10)
way-lacks (Some dir) = All-append (λ b. b ≢ 10) (codes " ") (dir_text dir) (lacks 10 (codes " ") refl) (dir-lacks dir)

-- a word is that of one end, one direction, one number
pub end_apart : (e f : End) → EndFits e → EndFits f → end_text e ≡ end_text f → e ≡ f
end_apart (end.Input i) (end.Input j) p q e = ap end.Input (decimal_apart i j (omega arith) (omega arith) (ap (drop 1) e))
end_apart (end.Input i) (end.Output j) p q e = absurd (omega (arith, ap (λ l. get_or l 0 0) e))
end_apart (end.Output i) (end.Input j) p q e = absurd (omega (arith, ap (λ l. get_or l 0 0) e))
end_apart (end.Output i) (end.Output j) p q e = ap end.Output (decimal_apart i j (omega arith) (omega arith) (ap (drop 1) e))

pub dir_apart : (d e : Dir) → dir_text d ≡ dir_text e → d ≡ e
dir_apart North North e = refl
dir_apart North East e = absurd (omega (arith, ap (λ l. get_or l 0 0) e))
dir_apart North South e = absurd (omega (arith, ap (λ l. get_or l 0 0) e))
dir_apart North West e = absurd (omega (arith, ap (λ l. get_or l 0 0) e))
dir_apart East North e = absurd (omega (arith, ap (λ l. get_or l 0 0) e))
dir_apart East East e = refl
dir_apart East South e = absurd (omega (arith, ap (λ l. get_or l 0 0) e))
dir_apart East West e = absurd (omega (arith, ap (λ l. get_or l 0 0) e))
dir_apart South North e = absurd (omega (arith, ap (λ l. get_or l 0 0) e))
dir_apart South East e = absurd (omega (arith, ap (λ l. get_or l 0 0) e))
dir_apart South South e = refl
dir_apart South West e = absurd (omega (arith, ap (λ l. get_or l 0 0) e))
dir_apart West North e = absurd (omega (arith, ap (λ l. get_or l 0 0) e))
dir_apart West East e = absurd (omega (arith, ap (λ l. get_or l 0 0) e))
dir_apart West South e = absurd (omega (arith, ap (λ l. get_or l 0 0) e))
dir_apart West West e = refl

pub number_apart : (m n : ℕ) → m < 2 ^ 32 → n < NO_COORDINATE → decimal m ≡ decimal n → m ≡ n
number_apart m n p q e = decimal_apart m n (omega arith) (omega arith) e

-- the words behind the first number of a cell, cut at their space
pub cut_row : (words front back : List ℕ) (y : ℕ) (way : Option Dir) → SplitsAt 32 words front back → AreRowAndWay words y way
    → (dir : Dir) × (way ≡ Some dir) × (front ≡ decimal y) × (back ≡ dir_text dir)
cut_row words front back y None splits row = absurd (SplitsAt-lacks splits (subst (Lacks 32) (sym (row.0 ∙ append-nil (decimal y))) (number_lacks_space y row.1)))
cut_row words front back y (Some dir) splits row =
    let same = split_apart 32 front (decimal y) back (dir_text dir) splits.first (number_lacks_space y row.1) (sym splits.text_is ∙ row.0) in
    (dir, refl, same.0, same.1)

-- the same words without a space
pub uncut_row : (words : List ℕ) (y : ℕ) (way : Option Dir) → Lacks 32 words → AreRowAndWay words y way → (way ≡ None) × (words ≡ decimal y)
uncut_row words y None none row = (refl, row.0 ∙ append-nil (decimal y))
uncut_row words y (Some dir) none row =
    let splits : SplitsAt 32 words (decimal y) (dir_text dir) = record { first = number_lacks_space y row.1; text_is = row.0 } in absurd (SplitsAt-lacks splits none)

row_apart : (words : List ℕ) (x y : ℕ) (v w : Option Dir) → AreRowAndWay words x v → AreRowAndWay words y w → (x ≡ y) × (v ≡ w)
row_apart words x y None w p q =
    let none : Lacks 32 words = subst (Lacks 32) (sym (p.0 ∙ append-nil (decimal x))) (number_lacks_space x p.1) in
    let same = uncut_row words y w none q in
    (number_apart x y (omega (arith, p.1)) q.1 (sym (append-nil (decimal x)) ∙ sym p.0 ∙ same.1), sym same.0)
row_apart words x y (Some dir) w p q =
    let splits : SplitsAt 32 words (decimal x) (dir_text dir) = record { first = number_lacks_space x p.1; text_is = p.0 } in
    let same = cut_row words (decimal x) (dir_text dir) y w splits q in
    (number_apart x y (omega (arith, p.1)) q.1 same.2, ap Some (dir_apart dir same.0 same.3) ∙ sym same.1)

-- the words of a cell, cut at their first space
pub cut_cell : (words front back : List ℕ) (x y : ℕ) (way : Option Dir) → SplitsAt 32 words front back → AreCellAndWay words x y way
    → (front ≡ decimal x) × (x < NO_COORDINATE) × AreRowAndWay back y way
cut_cell words front back x y way splits cell =
    let same = split_apart 32 front (decimal x) back cell.0 splits.first (number_lacks_space x cell.2) (sym splits.text_is ∙ cell.1 ∙ append_assoc (decimal x) (32 ∷ []) cell.0) in
    (same.0, cell.2, subst (λ row. AreRowAndWay row y way) (sym same.1) cell.3)

cell_apart : (words : List ℕ) (x y z t : ℕ) (v w : Option Dir) → AreCellAndWay words x y v → AreCellAndWay words z t w → (x ≡ z) × (y ≡ t) × (v ≡ w)
cell_apart words x y z t v w p q =
    let splits : SplitsAt 32 words (decimal x) p.0 = record { first = number_lacks_space x p.2; text_is = p.1 ∙ append_assoc (decimal x) (32 ∷ []) p.0 } in
    let same = cut_cell words (decimal x) p.0 z t w splits q in
    let rows = row_apart p.0 y t v w p.3 same.2 in
    (number_apart x z (omega (arith, p.2)) same.1 same.0, rows.0, rows.1)

-- the words of a pin behind its first
pin_words : (bytes : List ℕ) (pin : Pin) → bytes ≡ pin_text pin → bytes ≡ codes "pin " ++ (end_text pin.end ++ 32 ∷ (decimal pin.x ++ 32 ∷ (decimal pin.y ++ way_text pin.dir)))
pin_words bytes pin is = is ∙ simp append_assoc

pin_cell : (n : Network) (number : ℕ) (bytes : List ℕ) (pin : Pin) → IsPinLine n number bytes pin → AreCellAndWay (decimal pin.x ++ 32 ∷ (decimal pin.y ++ way_text pin.dir)) pin.x pin.y pin.dir
pin_cell n number bytes pin is = (decimal pin.y ++ way_text pin.dir, sym (append_assoc (decimal pin.x) (32 ∷ []) (decimal pin.y ++ way_text pin.dir)), is.short_x, (refl, is.short_y))

-- a pin line that was cut behind its first word and its end
pub cut_pin : (n : Network) (number : ℕ) (bytes words front back : List ℕ) (pin : Pin) → HasSmallSizes n → bytes ≡ codes "pin " ++ words → SplitsAt 32 words front back → IsPinLine n number bytes pin
    → (front ≡ end_text pin.end) × AreCellAndWay back pin.x pin.y pin.dir × EndFits pin.end
cut_pin n number bytes words front back pin small cut splits is =
    let fits = end_fits n pin.end small is.has_end in
    let same = split_apart 32 front (end_text pin.end) back (decimal pin.x ++ 32 ∷ (decimal pin.y ++ way_text pin.dir)) splits.first (end_lacks_space pin.end fits)
    (sym splits.text_is ∙ ap (drop 4) (sym cut ∙ pin_words bytes pin is.text)) in
    (same.0, subst (λ w. AreCellAndWay w pin.x pin.y pin.dir) (sym same.1) (pin_cell n number bytes pin is), fits)

-- a pin line has its first word, and a space behind its end
pub pin_begins : (n : Network) (number : ℕ) (bytes : List ℕ) (pin : Pin) → IsPinLine n number bytes pin → ((rest : List ℕ) → bytes ≡ codes "pin " ++ rest → ⊥) → ⊥
pin_begins n number bytes pin is none = none (end_text pin.end ++ 32 ∷ (decimal pin.x ++ 32 ∷ (decimal pin.y ++ way_text pin.dir))) (pin_words bytes pin is.text)

pub pin_space : (n : Network) (number : ℕ) (bytes words : List ℕ) (pin : Pin) → HasSmallSizes n → IsPinLine n number bytes pin → bytes ≡ codes "pin " ++ words → Lacks 32 words → ⊥
pin_space n number bytes words pin small is cut none =
    let splits : SplitsAt 32 words (end_text pin.end) (decimal pin.x ++ 32 ∷ (decimal pin.y ++ way_text pin.dir)) =
    record { first = end_lacks_space pin.end (end_fits n pin.end small is.has_end); text_is = ap (drop 4) (sym cut ∙ pin_words bytes pin is.text) } in
    SplitsAt-lacks splits none

-- a line is that of one pin
pub pin_apart : (n : Network) → HasSmallSizes n → (number : ℕ) (bytes : List ℕ) (p q : Pin) → IsPinLine n number bytes p → IsPinLine n number bytes q → p ≡ q
pin_apart n small number bytes p q a b =
    let rest = decimal p.x ++ 32 ∷ (decimal p.y ++ way_text p.dir) in
    let splits : SplitsAt 32 (end_text p.end ++ 32 ∷ rest) (end_text p.end) rest = record { first = end_lacks_space p.end (end_fits n p.end small a.has_end); text_is = refl } in
    let same = cut_pin n number bytes (end_text p.end ++ 32 ∷ rest) (end_text p.end) rest q small (pin_words bytes p a.text) splits b in
    let cells = cell_apart rest p.x p.y q.x q.y p.dir q.dir (pin_cell n number bytes p a) same.1 in
    let ends = end_apart p.end q.end (end_fits n p.end small a.has_end) same.2 same.0 in
    let x = cells.0 in
    let y = cells.1 in
    let way = cells.2 in
    let line = a.line ∙ sym b.line in
    λ i. record { end = ends i; x = x i; y = y i; dir = way i; line = line i }

-- the words of a block line
block_words : (bytes : List ℕ) (block : Block) → bytes ≡ block_text block → bytes ≡ codes "block " ++ (decimal block.x ++ 32 ∷ decimal block.y)
block_words bytes block is = is ∙ simp append_assoc

pub cut_block : (number : ℕ) (bytes words front back : List ℕ) (block : Block) → bytes ≡ codes "block " ++ words → SplitsAt 32 words front back → IsBlockLine number bytes block
    → (front ≡ decimal block.x) × (back ≡ decimal block.y)
cut_block number bytes words front back block cut splits is =
    split_apart 32 front (decimal block.x) back (decimal block.y) splits.first (number_lacks_space block.x is.short_x) (sym splits.text_is ∙ ap (drop 6) (sym cut ∙ block_words bytes block is.text))

-- a line is that of one block
pub block_apart : (number : ℕ) (bytes : List ℕ) (p q : Block) → IsBlockLine number bytes p → IsBlockLine number bytes q → p ≡ q
block_apart number bytes p q a b =
    let splits : SplitsAt 32 (decimal p.x ++ 32 ∷ decimal p.y) (decimal p.x) (decimal p.y) = record { first = number_lacks_space p.x a.short_x; text_is = refl } in
    let same = cut_block number bytes (decimal p.x ++ 32 ∷ decimal p.y) (decimal p.x) (decimal p.y) q (block_words bytes p a.text) splits b in
    let x = number_apart p.x q.x (omega (arith, a.short_x)) b.short_x same.0 in
    let y = number_apart p.y q.y (omega (arith, a.short_y)) b.short_y same.1 in
    let line = a.line ∙ sym b.line in
    λ i. record { x = x i; y = y i; line = line i }

-- these lines have bytes, of which the first tells them apart, and no line feed
pub pin_first : (n : Network) (number : ℕ) (bytes : List ℕ) (pin : Pin) → IsPinLine n number bytes pin → get_or bytes 0 0 ≡ 112
pin_first n number bytes pin is = ap (λ l. get_or l 0 0) (pin_words bytes pin is.text)

pub block_first : (number : ℕ) (bytes : List ℕ) (block : Block) → IsBlockLine number bytes block → get_or bytes 0 0 ≡ 98
block_first number bytes block is = ap (λ l. get_or l 0 0) (block_words bytes block is.text)

pub edge_first : (bytes : List ℕ) (e : Edge) → IsEdgeLine bytes e → get_or bytes 0 0 ≡ 101
edge_first bytes e is = let words = edge_words bytes e is in ap (λ l. get_or l 0 0) words.1

pub some_bytes : (bytes : List ℕ) (byte : ℕ) → get_or bytes 0 0 ≡ byte → 0 < byte → 0 < length bytes
some_bytes [] byte is some = absurd (omega (arith, is))
some_bytes (b ∷ bytes) byte is some = omega arith

number-lacks : (n : ℕ) → n < NO_COORDINATE → Lacks 10 (decimal n)
number-lacks n short = decimal-lacks n 10 (omega arith) (λ r. omega (arith, r.0))

pub pin-lacks : (n : Network) → HasSmallSizes n → (number : ℕ) (bytes : List ℕ) (pin : Pin) → IsPinLine n number bytes pin → Lacks 10 bytes
pin-lacks n small number bytes pin is =
    let P : ℕ → Type 0 = λ b. b ≢ 10 in
    let e : Lacks 10 (end_text pin.end) = end-lacks 10 pin.end (end_fits n pin.end small is.has_end) (λ r. omega (arith, r.0)) (λ x. omega arith) (λ x. omega arith) in
    let space : Lacks 10 (codes " ") = lacks 10 (codes " ") refl in
    subst (Lacks 10) (sym is.text)
    (All-append P (codes "pin " ++ end_text pin.end ++ codes " " ++ decimal pin.x ++ codes " " ++ decimal pin.y) (way_text pin.dir)
    (All-append P (codes "pin " ++ end_text pin.end ++ codes " " ++ decimal pin.x ++ codes " ") (decimal pin.y)
    (All-append P (codes "pin " ++ end_text pin.end ++ codes " " ++ decimal pin.x) (codes " ")
    (All-append P (codes "pin " ++ end_text pin.end ++ codes " ") (decimal pin.x)
    (All-append P (codes "pin " ++ end_text pin.end) (codes " ")
    (All-append P (codes "pin ") (end_text pin.end) (lacks 10 (codes "pin ") refl) e)
    space) (number-lacks pin.x is.short_x)) space) (number-lacks pin.y is.short_y)) (way-lacks pin.dir))

pub block-lacks : (number : ℕ) (bytes : List ℕ) (block : Block) → IsBlockLine number bytes block → Lacks 10 bytes
block-lacks number bytes block is =
    let P : ℕ → Type 0 = λ b. b ≢ 10 in
    subst (Lacks 10) (sym is.text)
    (All-append P (codes "block " ++ decimal block.x ++ codes " ") (decimal block.y)
    (All-append P (codes "block " ++ decimal block.x) (codes " ")
    (All-append P (codes "block ") (decimal block.x) (lacks 10 (codes "block ") refl) (number-lacks block.x is.short_x))
    (lacks 10 (codes " ") refl)) (number-lacks block.y is.short_y))
