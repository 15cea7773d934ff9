use Rattle.std.proofs.Common.{◌≡◌, ◌<◌, ◌+◌, ◌^◌, length, ap, sym, ◌∙◌, subst, arith}
use Rattle.bt_frac.specs.Rows.{HaveColumns}
use Rattle.bt_net.specs.declared.network.TheConstants.{MOST_OF_EACH}
use Rattle.bt_net.specs.Network.{enters, leaves}
use Rattle.bt_flow.specs.Ports.{numbers_where}
use Rattle.bt_frac.specs.declared.relation.Relation.TheVariants.{Equal}
use Rattle.bt_flow_formula.specs.Columns.{in_less_out}
use Rattle.bt_flow_formula.specs.inner.Merging.{merged}
use Rattle.bt_flow_formula.proofs.Merges.{merged_edges}
use Rattle.bt_flow_formula.proofs.Columns.{splitter_columns}
use Rattle.bt_flow_formula.proofs.families.conserve_row.Goals as goal

pub row_of_vec-requires : goal.row_of_vec-requires
row_of_vec-requires c =
    let n = c.args.net.now in
    let k = c.args.splitter in
    let network = c.requires.ports.network in
    let few : k < MOST_OF_EACH = let a = network.few_splitters in let b = c.requires.splitter in omega (arith, a, b) in
    let into : c.deref.result.now ≡ numbers_where (enters k) 0 n.edges = c.deref.ensures ∙ c.in_ok-entering.ensures ∙ c.requires.ports.into.at k few _ in
    let out : c.deref-2.result.now ≡ numbers_where (leaves k) 0 n.edges = c.deref-2.ensures ∙ c.in_ok-leaving.ensures ∙ c.requires.ports.out_of.at k few _ in
    let terms : c.in_ok-terms.terms.items ≡ in_less_out k 0 n.edges = c.in_ok-terms.ensures ∙ ap (λ x. merged x c.deref-2.result.now) into
    ∙ ap (λ x. merged (numbers_where (enters k) 0 n.edges) x) out ∙ merged_edges k 0 n.edges in
    let long : 0 + length n.edges < 2 ^ 64 = let a = network.few_edges in omega (arith, a) in
    subst HaveColumns (sym terms) (splitter_columns k 0 n.edges long)

pub returns : goal.returns
returns c =
    let n = c.args.net.now in
    let k = c.args.splitter in
    let network = c.requires.ports.network in
    let few : k < MOST_OF_EACH = let a = network.few_splitters in let b = c.requires.splitter in omega (arith, a, b) in
    let into : c.deref.result.now ≡ numbers_where (enters k) 0 n.edges = c.deref.ensures ∙ c.in_ok-entering.ensures ∙ c.requires.ports.into.at k few _ in
    let out : c.deref-2.result.now ≡ numbers_where (leaves k) 0 n.edges = c.deref-2.ensures ∙ c.in_ok-leaving.ensures ∙ c.requires.ports.out_of.at k few _ in
    let terms : c.in_ok-terms.terms.items ≡ in_less_out k 0 n.edges = c.in_ok-terms.ensures ∙ ap (λ x. merged x c.deref-2.result.now) into
    ∙ ap (λ x. merged (numbers_where (enters k) 0 n.edges) x) out ∙ merged_edges k 0 n.edges in
    c.row_of_vec.ensures ∙ ap (λ t. record { terms = t; relation = Equal; bound = c.whole.result }) terms
    ∙ ap (λ b. record { terms = in_less_out k 0 n.edges; relation = Equal; bound = b }) c.whole.ensures
