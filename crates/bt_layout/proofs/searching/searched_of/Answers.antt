use Rattle.std.proofs.Common.{◌≤◌, sym, subst}
use Rattle.bt_layout.specs.inner.Progressing.{HasLog}
use Rattle.bt_layout.proofs.searching.searched_of.Goals as goal

pub layout_of-requires-clause-ends : goal.layout_of-requires-clause-ends
layout_of-requires-clause-ends c = (c.requires.ends.0, c.requires.ends.1.ends)

pub returns : goal.returns
returns c = λ learnt ends. record {
  layout = c.in_ok-layout.ensures.layout learnt ends.ends;
  few = subst (λ n. n ≤ learnt) (sym c.len-steps.ensures) ends.few;
  has_log = subst (HasLog c.in_ok-layout.layout) (sym c.len-steps.ensures) c.in_ok-layout.ensures.log;
}
