use Rattle.std.proofs.Common.{◌≡◌, ℕ, ◌<◌, arith, [], ◌∷◌, ◌++◌, length, sym, subst, refl, ◌∙◌}
use Rattle.std.proofs.lemmas.List.{get_or_default}
use Rattle.bt_cnf.specs.declared.literal.Lit.{Lit}
use Rattle.bt_watch.specs.Watched.{no_lit, first, second}
use Rattle.bt_cnf.specs.Codes.{code_of}
use Rattle.bt_watch.specs.Keeping.{AreWatched}
use Rattle.bt_watch.specs.Propagating.{root_of}
use Rattle.bt_watch.specs.inner.Watchers.{Watches}
use Rattle.bt_watch.specs.WatchersParts.{WatchersParts}
use Rattle.bt_watch.proofs.Adding.{watched_more}
use Rattle.bt_watch.proofs.Codes.{code_below}
use Rattle.bt_watch.proofs.search.keep_packed.Goals as goal

-- the same of equal literals
watches_at : (w w' : WatchersParts) (l l' other other' : Lit) (id : ℕ) → l ≡ l' → other ≡ other' → Watches w w' l' (record { id = id; blocker = other' }) → Watches w w' l (record { id = id; blocker = other })
watches_at w w' l l' other other' id same also one =
    subst (λ m. Watches w w' m (record { id = id; blocker = other })) (sym same) (subst (λ m. Watches w w' l' (record { id = id; blocker = m })) (sym also) one)

pub returns : goal.returns
returns c =
    let old = c.args.search.now in
    let lits = c.args.lits.now in
    let id = c.in_ok-id.id in
    let added = c.in_ok-added.ensures.added.right in
    let at_first : first lits ≡ c.index-lits-0.result = get_or_default lits 0 no_lit c.index-lits-0.result (omega (arith, c.requires.watchable.two)) ∙ sym c.index-lits-0.is in
    let at_second : second lits ≡ c.index-lits-1.result = get_or_default lits 1 no_lit c.index-lits-1.result (omega (arith, c.requires.watchable.two)) ∙ sym c.index-lits-1.is in
    let one = watches_at old.watchers c.watch.new.self (first lits) c.index-lits-0.result (second lits) c.index-lits-1.result id at_first at_second c.in_ok-watch.ensures in
    let two = watches_at c.watch.new.self c.watch-2.new.self (second lits) c.index-lits-1.result (first lits) c.index-lits-0.result id at_second at_first c.in_ok-watch-2.ensures in
    let grown : c.add_slice.new.self ≡ old.clauses ++ lits ∷ [] = added.0 in
    record {
      assignment = refl;
      starts = refl;
      clauses = grown;
      numbers = c.in_ok-push.ensures.items;
      watched =
          subst (λ cs. AreWatched (root_of old) (length old.assignment.values) cs c.watch-2.new.self) (sym grown)
          (watched_more (root_of old) (length old.assignment.values) old.clauses old.watchers c.watch.new.self c.watch-2.new.self lits id c.requires.watched c.requires.watchable (c.in_ok-id.ensures ∙ added.1) one two);
    }

pub watch-requires : goal.watch-requires
watch-requires c =
    let old = c.args.search.now in
    let lits = c.args.lits.now in
    let at : first lits ≡ c.index-lits-0.result = get_or_default lits 0 no_lit c.index-lits-0.result (omega (arith, c.requires.watchable.two)) ∙ sym c.index-lits-0.is in
    subst (λ l. code_of l < length old.watchers.lists) at
    (code_below (first lits) (length old.assignment.values) (length old.watchers.lists) (c.requires.watchable.below 0 no_lit (omega (arith, c.requires.watchable.two))) c.requires.watched.lists)

pub watch-requires-2 : goal.watch-requires-2
watch-requires-2 c =
    let old = c.args.search.now in
    let lits = c.args.lits.now in
    let at : second lits ≡ c.index-lits-1.result = get_or_default lits 1 no_lit c.index-lits-1.result (omega (arith, c.requires.watchable.two)) ∙ sym c.index-lits-1.is in
    subst (λ l. code_of l < length c.watch.new.self.lists) at
    (code_below (second lits) (length old.assignment.values) (length c.watch.new.self.lists) (c.requires.watchable.below 1 no_lit (omega (arith, c.requires.watchable.two)))
    (c.in_ok-watch.ensures.one.size ∙ c.requires.watched.lists))
