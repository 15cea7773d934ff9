use Rattle.std.proofs.Common.{◌<◌, ◌≤◌, ◌-◌, arith, length, take, get_or, sym, refl}
use Rattle.std.proofs.lemmas.Bool.{false≢true}
use Rattle.std.proofs.lemmas.List.{take_all, length-map}
use Rattle.std.proofs.lemmas.List.Elements.{All-same}
use Rattle.bt_farkas.proofs.Tested.{all_more, not_all}
use Rattle.bt_cert.specs.inner.Refuting.{places_of}
use Rattle.bt_cert.proofs.Walks.{place_at, place_below}
use Rattle.bt_cert.proofs.units.are_hints.Goals as goal

pub returns-in_default : goal.returns-in_default
returns-in_default c =
    let hints = c.args.hints.now in
    let i = c.loop-hint.hint-index in
    let many = length c.args.known.now.clauses in (
      λ h. absurd (false≢true h),
      λ are.
          absurd (not_all (λ place. place < many) (places_of hints) i (get_or hints i 0 - 1) (place_below hints i c.loop-hint-test.true) (place_at hints i c.loop-hint-test.true)
          (λ below. omega (arith, below, c.place_of.ensures, c.in_default.ensures.none)) are),
    )

pub loop-hint-preserved : goal.loop-hint-preserved
loop-hint-preserved c =
    let hints = c.args.hints.now in
    let i = c.loop-hint.hint-index in
    let many = length c.args.known.now.clauses in
    all_more (λ place. place < many) (places_of hints) i (get_or hints i 0 - 1) (place_below hints i c.loop-hint-test.true) (place_at hints i c.loop-hint-test.true) c.loop-hint.invariant
    (omega (arith, c.place_of.ensures, c.in-Some.ensures.some.inside))

pub returns : goal.returns
returns c =
    let places = places_of c.args.hints.now in
    let all : length places ≤ c.loop-hint.hint-index = omega (arith, c.loop-hint-test.false, length-map c.args.hints.now (λ n. n - 1)) in
    (λ h. All-same (λ place. place < length c.args.known.now.clauses) places (take c.loop-hint.hint-index places) (sym (take_all c.loop-hint.hint-index places all)) c.loop-hint.invariant, λ h. refl)
