use Rattle.std.proofs.Common.{◌≡◌, ◌<◌, ap, length, subst, sym, ◌∙◌, arith}
use Rattle.std.specs.List.{All, Contains}
use Rattle.bt_model.specs.Chains.{IsSplitter, IsOutput}
use Rattle.bt_recover.specs.inner.Edges.{AreNumbered}
use Rattle.bt_recover.proofs.NetworkLemmas.{splitter_within, output_within, each_within, numbers_stay}
use Rattle.bt_recover.proofs.edges.numbers_of.Goals as goal

pub write_places-requires-clause-within : goal.write_places-requires-clause-within
write_places-requires-clause-within c =
    let count : length c.in_ok-numbers.numbers.items ≡ length c.args.grid.now =
    omega (arith, c.in_ok-numbers.ensures.len, ap length c.parts.ensures.value, c.in_ok-numbers.numbers.ok.0) in
    subst (λ xs. All (λ i. i < length c.in_ok-numbers.numbers.items) xs) (sym c.deref.ensures.value)
    (subst (λ n. All (λ i. i < n) c.args.names.now.splitters.items) (sym count)
    (each_within (IsSplitter c.args.grid.now) c.args.names.now.splitters.items (length c.args.grid.now) (splitter_within c.args.grid.now) c.requires.names.splitters))

pub write_places-requires-2-clause-within : goal.write_places-requires-2-clause-within
write_places-requires-2-clause-within c =
    let count : length c.write_places.new.numbers.items ≡ length c.args.grid.now =
    c.write_places.ensures.count ∙ (omega (arith, c.in_ok-numbers.ensures.len, ap length c.parts.ensures.value, c.in_ok-numbers.numbers.ok.0)) in
    subst (λ xs. All (λ i. i < length c.write_places.new.numbers.items) xs) (sym c.deref-2.ensures.value)
    (subst (λ n. All (λ i. i < n) c.args.names.now.outputs.items) (sym count)
    (each_within (IsOutput c.args.grid.now) c.args.names.now.outputs.items (length c.args.grid.now) (output_within c.args.grid.now) c.requires.names.outputs))

pub returns : goal.returns
returns c = record {
  count = c.write_places-2.ensures.count ∙ c.write_places.ensures.count ∙ (omega (arith, c.in_ok-numbers.ensures.len, ap length c.parts.ensures.value, c.in_ok-numbers.numbers.ok.0));
  splitters = numbers_stay c.args.grid.now _ c.write_places.new.numbers.items c.write_places-2.new.numbers.items c.requires.names
      (subst (λ xs. AreNumbered c.write_places.new.numbers.items xs) c.deref.ensures.value c.write_places.ensures.numbered)
      (λ i none. c.write_places-2.ensures.others i (λ there. none (subst (λ xs. Contains xs i) c.deref-2.ensures.value there)));
  outputs = subst (λ xs. AreNumbered c.write_places-2.new.numbers.items xs) c.deref-2.ensures.value c.write_places-2.ensures.numbered;
}
