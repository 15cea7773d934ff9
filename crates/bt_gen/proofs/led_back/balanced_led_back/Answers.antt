use Rattle.bt_gen.proofs.Kept.{balanced_kept}
use Rattle.bt_gen.proofs.led_back.balanced_led_back.Goals as goal

pub returns : goal.returns
returns c = balanced_kept
