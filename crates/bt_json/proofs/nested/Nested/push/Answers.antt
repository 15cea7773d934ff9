use Rattle.bt_json.specs.Stands.{json_of}
use Rattle.bt_json.specs.inner.Nested.{frame_of}
use Rattle.bt_json.proofs.FrameSteps.{pushed, frame_with-push}
use Rattle.bt_json.proofs.nested.Nested.push.Goals as goal

pub returns-clause-read : goal.returns-clause-read
returns-clause-read c =
    let self = c.args.self.now in
    pushed c.args.bytes.now c.args.end c.closing.result (json_of c.args.value) (frame_of self) _ c.next_ahead.result (frame_with-push self.names self.values.items c.args.value c.push.new.self.items c.in_ok-push.ensures.items) c.closing.ensures c.next_ahead.ensures.read
