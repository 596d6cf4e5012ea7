-- Places of events that pass a test.
use Rattle.std.proofs.Common.{◌≡◌, ◌++◌, ◌∙◌, Bool, List, [], ◌∷◌, refl, ap, append_assoc, sym, if◌then◌else◌}
use Rattle.msc_base.specs.declared.place.Place.{Place}
use Rattle.msc_meaning.specs.Bodies.{EventNode}
use Rattle.general_ordering.specs.EventNames.{places_where}

pub where_both : (test : EventNode → Bool) (ns ms : List EventNode) → places_where test (ns ++ ms) ≡ places_where test ns ++ places_where test ms
where_both test [] ms = refl
where_both test (n ∷ ns) ms =
    let here : List Place = if test n then n.event.place ∷ [] else [] in
    ap (λ l. here ++ l) (where_both test ns ms) ∙ sym (append_assoc here (places_where test ns) (places_where test ms))

pub where_same : (test other : EventNode → Bool) → ((n : EventNode) → test n ≡ other n) → (ns : List EventNode) → places_where test ns ≡ places_where other ns
where_same test other same [] = refl
where_same test other same (n ∷ ns) =
    ap (λ (b : Bool). (if b then n.event.place ∷ [] else []) ++ places_where test ns) (same n)
    ∙ ap (λ l. (if other n then n.event.place ∷ [] else []) ++ l) (where_same test other same ns)
