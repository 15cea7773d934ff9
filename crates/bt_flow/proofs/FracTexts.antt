-- The bytes that a fraction's spelling lacks.
use Rattle.std.proofs.Common.{arith}
use Rattle.bt_text.specs.Lines.{Lacks}
use Rattle.bt_frac.specs.Ratio.{Ratio, IsLowest}
use Rattle.bt_frac.specs.Texts.{frac_text}
use Rattle.bt_frac.proofs.FracTexts as frac

-- a spelling has no space
pub frac_text_lacks : (r : Ratio) → IsLowest r → Lacks 32 (frac_text r)
frac_text_lacks r h = frac.frac_text_lacks r 32 h (omega arith) (omega arith) (omega arith)

-- nor a line feed
pub frac_text_in_line : (r : Ratio) → IsLowest r → Lacks 10 (frac_text r)
frac_text_in_line r h = frac.frac_text_lacks r 10 h (omega arith) (omega arith) (omega arith)
