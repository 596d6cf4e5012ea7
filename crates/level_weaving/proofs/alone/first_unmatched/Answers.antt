use Rattle.std.proofs.Common.{List, Bool, ℕ, length, map, sym, subst}
use Rattle.std.proofs.lemmas.List.{length-map}
use Rattle.msc_base.specs.Places.{IsLeast}
use Rattle.level_weaving.specs.Alone.{AreTold, IsAlone}
use Rattle.level_weaving.specs.EventViews.{event_view}
use Rattle.level_weaving.proofs.AloneLaws.{least_unmatched, pairs_within}
use Rattle.level_weaving.proofs.alone.first_unmatched.Goals as goal

pub paired-requires : goal.paired-requires
paired-requires c = pairs_within (map event_view c.args.events.now) c.args.pairs.now (length c.args.events.now) (length-map c.args.events.now event_view) c.requires

pub returns : goal.returns
returns c =
    let told : AreTold c.args.pairs.now (length (map event_view c.args.events.now)) c.in_ok-told.told.items =
    subst (λ (n : ℕ). AreTold c.args.pairs.now n c.in_ok-told.told.items) (sym (length-map c.args.events.now event_view)) c.in_ok-told.ensures in
    let least : IsLeast (IsAlone (map event_view c.args.events.now) c.in_ok-told.told.items) c.first_alone.result =
    subst (λ (fs : List Bool). IsLeast (IsAlone (map event_view c.args.events.now) fs) c.first_alone.result) c.as_slice.ensures.value c.first_alone.ensures in
    least_unmatched (map event_view c.args.events.now) c.args.pairs.now c.in_ok-told.told.items c.first_alone.result c.requires told least
