use Rattle.std.proofs.Common.{◌≡◌, ◌++◌, List, ap, ◌∙◌}
use Rattle.std.specs.List.{swap}
use Rattle.bt_cnf.specs.declared.literal.Lit.{Lit}
use Rattle.bt_watch.proofs.Loaded.{paired_by}
use Rattle.bt_watch.proofs.loading.pair.Goals as goal

pub returns : goal.returns
returns c =
    let lits = c.args.lits.now in
    let copied : c.extend_from_slice.new.self.items ≡ lits = c.in_ok-extend_from_slice.ensures.items ∙ ap (λ (before : List Lit). before ++ lits) c.clear.ensures.items in
    paired_by lits c.swap.new.self.items c.args.place c.requires (c.swap.ensures.items ∙ ap (λ (ls : List Lit). swap ls 1 c.args.place) copied)
