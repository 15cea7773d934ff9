use Rattle.bt_log.proofs.Left.{is_tight}
use Rattle.bt_log.proofs.trimming.trimmed.Goals as goal

pub returns : goal.returns
returns c =
    let log = c.args.log.now in
    let kept = c.in_ok-kept.kept.places.items in
    let needed = c.in_ok-kept.ensures.needed in
    let first = c.in_ok-add_all.ensures.first in
    let left = c.in_ok-add_all.ensures.left in
    record {
      first = first;
      kept = kept;
      in_order = needed.in_order;
      left = left;
      last = needed.last;
      tight = is_tight log c.add_all.new.left kept first needed left;
    }
