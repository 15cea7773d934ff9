-- What the clauses of `read_all` and `write_all_of` say of a source or a sink that tells its bytes.
use Rattle.std.proofs.Common.{◌≡◌, ℕ, ◌≤◌, List, ◌++◌, length, Some, None, sym, ◌∙◌, ap, arith, length-append, append-nil}
use Rattle.std.specs.declared.option.Option.{Option}
use Rattle.std.specs.Io.KnownBytes.{Consumes, IsAtEnd}
use Rattle.bt_io.specs.Bytes.{IsAllOf, Takes}
use Rattle.bt_io.specs.Passages.{Passage}

all_of : (told bytes : List ℕ) (after : Option (List ℕ)) → Consumes (Some told) after bytes → IsAtEnd after → bytes ≡ told
all_of told bytes None p ends = absurd p
all_of told bytes (Some rest) p ends = sym (p ∙ ap (λ xs. bytes ++ xs) ends ∙ append-nil bytes)

-- all that was left is what the source told
pub all_told : (source : Passage) (told bytes : List ℕ) → source.before ≡ Some told → IsAllOf source bytes → bytes ≡ told
all_told source told bytes is p = all_of told bytes source.after (rw is at p.0) p.1

few_of : (told bytes : List ℕ) (after : Option (List ℕ)) → Consumes (Some told) after bytes → length bytes ≤ length told
few_of told bytes None p = absurd p
few_of told bytes (Some rest) p = omega (arith, ap length p, length-append bytes rest)

-- no more bytes are taken than the source told
pub takes_told : (source : Passage) (told : List ℕ) (n : ℕ) → source.before ≡ Some told → Takes source n → n ≤ length told
takes_told source told n is p = omega (arith, few_of told p.0 source.after (rw is at p.1), p.2)
