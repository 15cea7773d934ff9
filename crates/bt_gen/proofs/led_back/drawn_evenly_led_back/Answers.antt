use Rattle.bt_gen.proofs.Kept.{drawn_evenly_kept}
use Rattle.bt_gen.proofs.led_back.drawn_evenly_led_back.Goals as goal

pub returns : goal.returns
returns c = drawn_evenly_kept
