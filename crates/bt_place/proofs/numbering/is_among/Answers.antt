use Rattle.std.proofs.Common.{◌<◌, length, subst, sym}
use Rattle.std.proofs.lemmas.Bool.{ltb-true, lt-ltb}
use Rattle.bt_place.proofs.Inverse.{class_there, class_placed}
use Rattle.bt_place.proofs.numbering.is_among.Goals as goal

pub returns : goal.returns
returns c =
    let classes = c.args.classes.now in (
      λ t. class_there classes c.args.class (subst (λ n. n < length classes) c.place_among.ensures (ltb-true c.place_among.result (length classes) t)),
      λ h. lt-ltb c.place_among.result (length classes) (subst (λ n. n < length classes) (sym c.place_among.ensures) (class_placed classes c.args.class h)),
    )
