use Rattle.bt_gen.proofs.Kept.{unlimited_kept}
use Rattle.bt_gen.proofs.led_back.unlimited_led_back.Goals as goal

pub returns : goal.returns
returns c = unlimited_kept
