-- A layout has one network with its own numbering.
use Rattle.std.proofs.Common.{replicate, false, ◌≡◌, ◌<◌, List, ap, sym, ◌∙◌, subst, arith}
use Rattle.std.specs.List.{AllZip, AllPairs}
use Rattle.bt_parts.specs.declared.part.Part.{Part}
use Rattle.bt_net.specs.Network.{Network, HasNoPriorities, none_each}
use Rattle.bt_model.specs.Shown.{Naming, IsNumbered, IsPlacedBefore, ComesBefore, IsEdgeOf, ListsEach}
use Rattle.bt_model.proofs.Sorted.{IsAsymmetric, same_ascending, same_zipped}
use Rattle.bt_model.proofs.Orders.{parts_asymmetric, sources_asymmetric, same_edge}

-- two lists in one order of each thing of a kind
same_each : {X : Type 0} (R : X → X → Type 0) (P : X → Type 0) → IsAsymmetric R → (xs ys : List X)
    → ListsEach P xs → ListsEach P ys → AllPairs R xs → AllPairs R ys → xs ≡ ys
same_each R P asym xs ys h k up_xs up_ys =
    same_ascending R asym xs ys up_xs up_ys (λ x there. k.all x (h.only x there)) (λ x there. h.all x (k.only x there))

pub same_naming : (parts : List Part) (m n : Network) (a b : Naming) → IsNumbered parts m a → IsNumbered parts n b → a ≡ b
same_naming parts m n a b h k =
    let splitters : a.splitters ≡ b.splitters = same_each ◌<◌ _ (λ i j lt gt. omega arith) a.splitters b.splitters h.names.splitters k.names.splitters h.numbering.splitters k.numbering.splitters in
    let inputs : a.inputs ≡ b.inputs = same_each (IsPlacedBefore parts) _ (parts_asymmetric parts) a.inputs b.inputs h.names.inputs k.names.inputs h.numbering.inputs k.numbering.inputs in
    let outputs : a.outputs ≡ b.outputs = same_each (IsPlacedBefore parts) _ (parts_asymmetric parts) a.outputs b.outputs h.names.outputs k.names.outputs h.numbering.outputs k.numbering.outputs in
    ap (λ z. record { splitters = z; inputs = a.inputs; outputs = a.outputs }) splitters
    ∙ ap (λ z. record { splitters = b.splitters; inputs = z; outputs = a.outputs }) inputs
    ∙ ap (λ z. record { splitters = b.splitters; inputs = b.inputs; outputs = z }) outputs

same_edges : (parts : List Part) (m n : Network) (a : Naming) → HasNoPriorities m → HasNoPriorities n → IsNumbered parts m a → IsNumbered parts n a → m ≡ n
same_edges parts m n a plain other h k =
    let chains : h.chains ≡ k.chains = same_each (λ one other. ComesBefore one.source other.source) _ (λ x y. sources_asymmetric x.source y.source)
    h.chains k.chains h.each_once k.each_once h.in_order k.in_order in
    let edges : m.edges ≡ n.edges = same_zipped (IsEdgeOf parts a) (same_edge parts a h.names.splitters.once h.names.inputs.once h.names.outputs.once) h.chains m.edges n.edges
    h.named (subst (λ cs. AllZip (IsEdgeOf parts a) cs n.edges) (sym chains) k.named) in
    let splitters : m.splitters ≡ n.splitters = h.names.splitter_count ∙ sym k.names.splitter_count in
    let inputs : m.inputs ≡ n.inputs = h.names.input_count ∙ sym k.names.input_count in
    let outputs : m.outputs ≡ n.outputs = h.names.output_count ∙ sym k.names.output_count in
    let none = ap none_each splitters in
    let gives : m.gives ≡ n.gives = plain.gives ∙ none ∙ sym other.gives in
    let takes : m.takes ≡ n.takes = plain.takes ∙ none ∙ sym other.takes in
    let merges : m.merges ≡ n.merges = plain.merges ∙ ap (λ k. replicate k false) splitters ∙ sym other.merges in
    λ i. record { inputs = inputs i; outputs = outputs i; splitters = splitters i; edges = edges i; gives = gives i; takes = takes i; merges = merges i }

pub same_network : (parts : List Part) (m n : Network) (a b : Naming) → HasNoPriorities m → HasNoPriorities n → IsNumbered parts m a → IsNumbered parts n b → m ≡ n
same_network parts m n a b plain other h k = same_edges parts m n a plain other h (subst (λ name. IsNumbered parts n name) (sym (same_naming parts m n a b h k)) k)
