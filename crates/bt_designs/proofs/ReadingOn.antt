-- What was gathered of a source, block by block.
use Rattle.std.proofs.Common.{◌≡◌, ℕ, ◌+◌, ◌-◌, ◌≤◌, List, [], ◌∷◌, length, Err, sym, ◌∙◌, ap, subst, arith, append-nil, length-append}
use Rattle.std.specs.Prelude.{All}
use Rattle.bt_text.specs.Blanks.{IsBlank, SkipsBlanks}
use Rattle.bt_io.specs.Blocks.{ReadsOn}
use Rattle.bt_io.specs.Bytes.{ReadsAll}
use Rattle.bt_io.specs.Passages.{Passage}
use Rattle.bt_io.specs.declared.fault.ReadAll.{ReadAll}
use Rattle.bt_io.specs.declared.fault.ReadAll.TheVariants.{ReadFault, TooLong, Memory}
use Rattle.bt_designs.specs.declared.held.Gathered.{Gathered}
use Rattle.bt_designs.specs.declared.held.TheConstants.{MOST_CHECKED}

-- ---- blanks

-- a text of which nothing is left behind its blanks is blank
pub all_blank : (bytes text : List ℕ) → SkipsBlanks bytes text → length text ≡ 0 → All IsBlank bytes
all_blank bytes [] s none = subst (All IsBlank) (sym (s.text_is ∙ append-nil s.blanks)) s.are_blanks
all_blank bytes (b ∷ text) s none = absurd (omega (arith, none))

-- ---- one read

module _ (old : Gathered) (source : Passage) (few : old.skipped + length old.bytes.items ≤ MOST_CHECKED) where
  -- it could not be read on
  pub none_gathered : (after : List ℕ) (fault : ReadAll) → ReadsOn (MOST_CHECKED - old.skipped) source old.bytes.items after (Err fault) → ReadsAll (MOST_CHECKED - (old.skipped + length old.bytes.items)) source (Err fault)
  none_gathered after ReadFault r = record { read = (r.read.0, ([], r.read.1, omega arith)); count = r.count }
  none_gathered after TooLong r = record {
    read = (
      r.read.0.piece,
      r.read.0.taken,
      let l = ap length r.read.0.behind in
          let both = length-append old.bytes.items r.read.0.piece in
          omega (arith, l, both, r.read.1, few),
    );
    count = r.count;
  }
  none_gathered after Memory r = record { read = ([], r.read.0, omega arith); count = r.count }
