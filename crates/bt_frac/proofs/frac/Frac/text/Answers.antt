use Rattle.std.proofs.Common.{rules, arith, ◌≡◌, ◌≢◌, ◌∙◌, ◌<◌, FitsSigned, length, drop, unsigned_abs, ap, length-drop}
use Rattle.std.specs.Fmt.{decimal, signed_decimal}
use Rattle.std.specs.Int.{w128}
use Rattle.std.proofs.lemmas.Int.{to_z-of_z}
use Rattle.bt_frac.proofs.TextPieces.{text_written}
use Rattle.bt_frac.proofs.frac.Frac.text.Goals as goal

pub returns-clause-written : goal.returns-clause-written
returns-clause-written c =
    let over_fits : FitsSigned w128 c.numerator.result = search rules in
    let under_fits : FitsSigned w128 c.denominator.result = search rules in
    let over = simp to_z-of_z at c.format.ensures.text in
    let size = simp to_z-of_z at c.magnitude-under.ensures in
    let under : c.magnitude-under.result ≡ c.args.self.now.under = size ∙ ap unsigned_abs c.denominator.ensures.value in
    let no_whole : c.args.self.now.under ≢ 1 = λ e. c.if-under-eq1.false (under ∙ e) in
    let room : 0 < length (drop (length c.as_bytes-over.result.now) c.args.buf.now) =
    omega (arith, length-drop (length c.as_bytes-over.result.now) c.args.buf.now, c.as_bytes-over.ensures.len, c.format.ensures.short, c.told-buf) in
    text_written c.args.self.now c.as_bytes-over.result.now _ c.as_bytes-under.result.now _ _ _
    (c.as_bytes-over.ensures.value ∙ over ∙ ap signed_decimal c.numerator.ensures.value) c.copy_from_slice.ensures.after
    (c.as_bytes-under.ensures.value ∙ c.format-2.ensures.text ∙ ap decimal under) c.copy_from_slice-2.ensures.after no_whole room
