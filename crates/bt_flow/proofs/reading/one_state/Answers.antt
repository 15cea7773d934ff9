use Rattle.bt_flow.proofs.StateTexts as texts
use Rattle.bt_flow.proofs.reading.one_state.Goals as goal

pub returns : goal.returns
returns c = texts.one_state
