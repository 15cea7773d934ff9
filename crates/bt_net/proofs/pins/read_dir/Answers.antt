use Rattle.std.proofs.Common.{◌≡◌, ℕ, List}
use Rattle.std.specs.Prelude.{codes}
use Rattle.std.proofs.lemmas.Bool.{iff_false}
use Rattle.bt_parts.specs.declared.part.Dir.{Dir}
use Rattle.bt_parts.specs.declared.part.Dir.TheVariants.{North, East, South, West}
use Rattle.bt_net.specs.PinText.{dir_text}
use Rattle.bt_net.proofs.pins.read_dir.Goals as goal

-- a word that is none of the four is that of no direction
none_of : (word : List ℕ) → (word ≡ codes "north" → ⊥) → (word ≡ codes "east" → ⊥) → (word ≡ codes "south" → ⊥) → (word ≡ codes "west" → ⊥)
    → (dir : Dir) → word ≡ dir_text dir → ⊥
none_of word north east south west North is = north is
none_of word north east south west East is = east is
none_of word north east south west South is = south is
none_of word north east south west West is = west is

pub returns-else-is_word-4-clause-none : goal.returns-else-is_word-4-clause-none
returns-else-is_word-4-clause-none c = none_of c.args.word.now
    (iff_false c.is_word.ensures c.if-is_word.false)
    (iff_false c.is_word-else-is_word.ensures c.if-is_word-2.false)
    (iff_false c.is_word-else-is_word-2.ensures c.if-is_word-3.false)
    (iff_false c.is_word-else-is_word-3.ensures c.if-is_word-4.false)

pub returns-then-is_word-clause-some : goal.returns-then-is_word-clause-some
returns-then-is_word-clause-some c = c.is_word.ensures.0 c.if-is_word.true

pub returns-then-is_word-2-clause-some : goal.returns-then-is_word-2-clause-some
returns-then-is_word-2-clause-some c = c.is_word-else-is_word.ensures.0 c.if-is_word-2.true

pub returns-then-is_word-3-clause-some : goal.returns-then-is_word-3-clause-some
returns-then-is_word-3-clause-some c = c.is_word-else-is_word-2.ensures.0 c.if-is_word-3.true

pub returns-then-is_word-4-clause-some : goal.returns-then-is_word-4-clause-some
returns-then-is_word-4-clause-some c = c.is_word-else-is_word-3.ensures.0 c.if-is_word-4.true
