-- Parts put together: what is said of them is said of the whole.
use Rattle.std.proofs.Common.{◌≡◌, ◌∙◌, ℕ, List, [], ◌∷◌, ◌++◌, refl, sym, ap, append_assoc, append-nil}
use Rattle.std.proofs.lemmas.List.{map-append}
use Rattle.std.specs.Global.{Global}
use Rattle.std.specs.declared.vec.Vec.{Vec}
use Rattle.msc_base.specs.declared.label.Pair.{Pair}
use Rattle.msc_unfolding.specs.Unfoldings.{Tag}
use Rattle.hmsc_graph.specs.declared.shape.Shape.{Shape}
use Rattle.expansion_tree.specs.Expansions.{Expansion, Expansions, no_parts, part_and, expansions, InRow, all_events_in, events_in, map_all_events, map_events}
use Rattle.expansion_tree.specs.Expansions as plain
use Rattle.expansion_tree.specs.Numbered as numbered
use Rattle.expansion_tree.specs.Views.{expansion_view, expansions_view}
use Rattle.expansion_tree.specs.declared.tree.ExpandedEvent.{ExpandedEvent}
use Rattle.expansion_tree.specs.declared.tree.Expansion as rust
use Rattle.expansion_tree.specs.declared.tree.Expansion.TheVariants as tree
use Rattle.expansion_tree.proofs.ViewFacts.{tied_is, walk_is}
use Rattle.expanded_charts.specs.Expanding.{Expanded, NumberedEvent, nothing, past, past_shown, tied, tied_pairs, walk}
use Rattle.expanded_charts.specs.Making.{AreMade, Extends, IsAdded, IsChanged, IsMadeOf, with_part}
use Rattle.expanded_charts.specs.ShownGates.{gates_in, gates_view, own_numbers, shown_view}
use Rattle.expanded_charts.specs.Numbering.{event_by, with_event, with_events}
use Rattle.expanded_charts.specs.declared.made.Made.{Made}
use Rattle.expanded_charts.specs.declared.made.MadeParts.{MadeParts}
use Rattle.expanded_charts.specs.declared.shown.ShownGate.{ShownGate}
use Rattle.expanded_charts.specs.declared.numbering.Numbering.{Numbering}
use Rattle.expanded_charts.proofs.ShownFacts.{IsPast, gates_both, gates_past, own_both, own_past}

-- ---- numberings that have more

pub extends_self : (s : Numbering) → Extends s s
extends_self s = record { more_names = []; more_labels = []; names = sym (append-nil s.names); labels = sym (append-nil s.labels) }

pub extends_then : (a b c : Numbering) → Extends a b → Extends b c → Extends a c
extends_then a b c f g = record {
  more_names = f.more_names ++ g.more_names;
  more_labels = f.more_labels ++ g.more_labels;
  names = g.names ∙ (ap (λ l. l ++ g.more_names) f.names ∙ append_assoc a.names f.more_names g.more_names);
  labels = g.labels ∙ (ap (λ l. l ++ g.more_labels) f.labels ∙ append_assoc a.labels f.more_labels g.more_labels);
}

events_both : (s : Numbering) (es fs : List NumberedEvent) → with_events s (es ++ fs) ≡ with_events (with_events s es) fs
events_both s [] fs = refl
events_both s (e ∷ es) fs = events_both (with_event s e) es fs

-- ---- one part more

events_more : (ps : Expansions NumberedEvent) (x : Expansion NumberedEvent) → all_events_in (with_part ps x) ≡ all_events_in ps ++ events_in x
events_more no_parts x = append-nil (events_in x)
events_more (part_and y ys) x = ap (λ l. events_in y ++ l) (events_more ys x) ∙ sym (append_assoc (events_in y) (all_events_in ys) (events_in x))

abbrev with_numbered : numbered.Expansions → numbered.Expansion → numbered.Expansions
with_numbered no_parts x = part_and x no_parts
with_numbered (part_and y ys) x = part_and y (with_numbered ys x)

map_more : (f : NumberedEvent → ExpandedEvent) (ps : Expansions NumberedEvent) (x : Expansion NumberedEvent) → map_all_events f (with_part ps x) ≡ with_numbered (map_all_events f ps) (map_events f x)
map_more f no_parts x = refl
map_more f (part_and y ys) x = ap (λ l. part_and (map_events f y) l) (map_more f ys x)

view_more : (xs : List rust.Expansion) (x : rust.Expansion) → expansions_view (xs ++ x ∷ []) ≡ with_numbered (expansions_view xs) (expansion_view x)
view_more [] x = refl
view_more (y ∷ xs) x = ap (λ l. part_and (expansion_view y) l) (view_more xs x)

pub is_added : (was : MadeParts) (made : Made) (parts : MadeParts) → parts.parts.items ≡ was.parts.items ++ made.part ∷ [] → parts.own ≡ was.own ++ made.own → parts.gates.items ≡ was.gates.items ++ made.gates.items → parts.next ≡ made.next → IsAdded was made parts
is_added was made parts items own gates next = λ old mid new ps e h k.
    record {
      extends = extends_then old mid new h.extends k.extends;
      seen = k.seen ∙ (ap (λ s. with_events s (events_in e.part)) h.seen ∙ (sym (events_both old (all_events_in ps.parts) (events_in e.part)) ∙ ap (with_events old) (sym (events_more ps.parts e.part))));
      parts = λ later ext.
          ap expansions_view items ∙ (view_more was.parts.items made.part
          ∙ (ap (λ l. with_numbered l (expansion_view made.part)) (h.parts later (extends_then mid new later k.extends ext))
          ∙ (ap (with_numbered (map_all_events (event_by later) ps.parts)) (k.part later ext) ∙ sym (map_more (event_by later) ps.parts e.part))));
      own = own ∙ (ap (λ l. l ++ made.own) h.own ∙ (ap (λ l. own_numbers ps.shown ++ l) k.own ∙ sym (own_both ps.shown e.shown)));
      gates = ap gates_view gates ∙ (map-append shown_view was.gates.items made.gates.items ∙ (ap (λ l. l ++ gates_view made.gates.items) h.gates ∙ (ap (λ l. gates_in ps.shown ++ l) k.gates ∙ sym (gates_both ps.shown e.shown))));
      next = next ∙ k.next;
    }

pub none_made : (s : Numbering) (parts : MadeParts) → parts.parts.items ≡ [] → parts.own ≡ [] → parts.gates.items ≡ [] → (n : ℕ) → parts.next ≡ n → AreMade s s (nothing n) parts
none_made s parts items own gates n next = record { extends = extends_self s; seen = refl; parts = λ later ext. ap expansions_view items; own = own; gates = ap gates_view gates; next = next }

-- ---- a part of a part

pub tied_made : (ts : List (Tag × Tag)) (was made : Made) (inner : _) (numbers : List Pair) → ((e : Expanded) → was.own ≡ own_numbers e.shown → gates_view was.gates.items ≡ gates_in e.shown → numbers ≡ tied_pairs e.shown ts)
    → made.part ≡ tree.Tied inner numbers → inner.value ≡ was.part → made.own ≡ was.own → made.gates ≡ was.gates → made.next ≡ was.next → IsChanged (tied ts) was made
tied_made ts was made inner numbers are is held own gates next = λ old new e h.
    record {
      extends = h.extends;
      seen = h.seen;
      part = λ later ext. ap expansion_view is ∙ (tied_is inner numbers ∙ (ap (λ x. plain.Tied x numbers) (ap expansion_view held ∙ h.part later ext) ∙ ap (λ l. plain.Tied (map_events (event_by later) e.part) l) (are e h.own h.gates)));
      own = own ∙ h.own;
      gates = ap (λ (g : Vec ShownGate Global). gates_view g.items) gates ∙ h.gates;
      next = next ∙ h.next;
    }

-- the walks through a graph of these parts
pub walk_made : (n : ℕ) (shape : Shape) (parts : MadeParts) (made : Made) → made.part ≡ tree.Walk n shape parts.parts → made.own ≡ [] → made.gates.items ≡ [] → made.next ≡ parts.next → IsMadeOf (walk n shape) parts made
walk_made n shape parts made is own gates next = λ old new ps h.
    record {
      extends = h.extends;
      seen = h.seen;
      part = λ later ext. ap expansion_view is ∙ (walk_is n shape parts.parts ∙ ap (λ xs. plain.Walk n shape xs) (h.parts later ext));
      own = own;
      gates = ap gates_view gates;
      next = next ∙ h.next;
    }

-- what a part shows above
pub past_made : (f : Tag → List Tag) → IsPast f → (was made : Made) → made.part ≡ was.part → made.own ≡ [] → gates_view made.gates.items ≡ past_shown f (gates_view was.gates.items) → made.next ≡ was.next → IsChanged (past f) was made
past_made f past was made is own gates next = λ old new e h.
    record {
      extends = h.extends;
      seen = h.seen;
      part = λ later ext. ap expansion_view is ∙ h.part later ext;
      own = own ∙ sym (own_past f past e.shown);
      gates = gates ∙ (ap (past_shown f) h.gates ∙ sym (gates_past f past e.shown));
      next = next ∙ h.next;
    }
