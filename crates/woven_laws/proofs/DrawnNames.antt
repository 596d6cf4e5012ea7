-- The charts that the nodes of a graph name are those of the links of its text.
use Rattle.std.proofs.Common.{◌≡◌, ℕ, ◌≤◌, ◌+◌, inl, inr, List, [], ◌∷◌, ◌++◌, refl, sym, subst, ap, arith}
use Rattle.std.specs.List.{flat_map}
use Rattle.std.proofs.lemmas.Grind.{flat_map-append}
use Rattle.chart_links.specs.Links.{Link, chart_links, expression_links, node_links, part_links, passage_links, used_links}
use Rattle.chart_text.specs.Texts.{Whole, chart_text}
use Rattle.graph_text.specs.GraphTexts.{GraphPart, frames_parts, graph_parts, line_parts, lines_parts, node_parts}
use Rattle.list_facts.proofs.Members.{among_either, among_left, among_right}
use Rattle.msc_base.specs.Lists.{IsAmong}
use Rattle.msc_base.specs.declared.place.Place.{Place}
use Rattle.msc_meaning.specs.InnerEvents.{charts_in}
use Rattle.msc_tree.specs.Charts.{Chart, Content, HighLevel}
use Rattle.msc_tree.specs.Graphs.{Graph, graph, Lines, no_lines, line_and, line, Node, Ends, Connect, Condition, Refer, Frames, Graphs, no_graphs, graph_and}
use Rattle.woven_laws.specs.BuiltCharts.{IsLinked}
use Rattle.woven_laws.specs.GraphNames.{frames_names, graph_names, lines_names, node_names}
use Rattle.woven_laws.proofs.WovenNames.{expression_linked}

-- ---- links of parts

linked_left : (xs ys : List Link) (name : List ℕ) → IsLinked xs name → IsLinked (xs ++ ys) name
linked_left xs ys name h = record { link = h.link; says = among_left xs ys h.link h.says; is = h.is; deep = h.deep }

linked_right : (xs ys : List Link) (name : List ℕ) → IsLinked ys name → IsLinked (xs ++ ys) name
linked_right xs ys name h = record { link = h.link; says = among_right xs ys h.link h.says; is = h.is; deep = h.deep }

-- in the text of parts
abbrev AreLinkedIn : List GraphPart → List ℕ → Type 0
AreLinkedIn parts name = IsLinked (flat_map part_links parts) name

in_left : (xs ys : List GraphPart) (name : List ℕ) → AreLinkedIn xs name → AreLinkedIn (xs ++ ys) name
in_left xs ys name h = subst (λ (l : List Link). IsLinked l name) (sym (flat_map-append part_links xs ys)) (linked_left (flat_map part_links xs) (flat_map part_links ys) name h)

in_right : (xs ys : List GraphPart) (name : List ℕ) → AreLinkedIn ys name → AreLinkedIn (xs ++ ys) name
in_right xs ys name h = subst (λ (l : List Link). IsLinked l name) (sym (flat_map-append part_links xs ys)) (linked_right (flat_map part_links xs) (flat_map part_links ys) name h)

-- ---- graphs

mutual
  graph_linked : (depth : ℕ) (g : Graph) (name : List ℕ) → IsAmong (graph_names g) name → AreLinkedIn (graph_parts depth g) name
  graph_linked depth (graph starts held) name h = lines_linked (depth + 2) held name (omega arith) h

  lines_linked : (depth : ℕ) (xs : Lines) (name : List ℕ) → 2 ≤ depth → IsAmong (lines_names xs) name → AreLinkedIn (lines_parts depth xs) name
  lines_linked depth no_lines name low h = absurd h
  lines_linked depth (line_and (line label place node next) xs) name low h = elim (among_either (node_names node) (lines_names xs) name h) [
    | inl own ↦ in_left (line_parts depth (line label place node next)) (lines_parts depth xs) name (node_linked depth place node name low own)
    | inr more ↦ in_right (line_parts depth (line label place node next)) (lines_parts depth xs) name (lines_linked depth xs name low more)
  ]

  node_linked : (depth : ℕ) (place : Place) (x : Node) (name : List ℕ) → 2 ≤ depth → IsAmong (node_names x) name → IsLinked (node_links place depth x ++ flat_map part_links (node_parts depth x)) name
  node_linked depth place Ends name low h = absurd h
  node_linked depth place Connect name low h = absurd h
  node_linked depth place (Condition names) name low h = absurd h
  node_linked depth place (Refer e) name low h =
      let r = expression_linked place Whole depth e name h in
      linked_left (expression_links place Whole depth e) [] name (record { link = r.link; says = r.says; is = r.is; deep = omega (arith, low, r.deep) })
  node_linked depth place (Frames held) name low h = frames_linked (depth + 2) held name h

  frames_linked : (depth : ℕ) (xs : Graphs) (name : List ℕ) → IsAmong (frames_names xs) name → AreLinkedIn (frames_parts depth xs) name
  frames_linked depth no_graphs name h = absurd h
  frames_linked depth (graph_and g xs) name h = elim (among_either (graph_names g) (frames_names xs) name h) [
    | inl own ↦ in_left (graph_parts depth g) (frames_parts depth xs) name (graph_linked depth g name own)
    | inr more ↦ in_right (graph_parts depth g) (frames_parts depth xs) name (frames_linked depth xs name more)
  ]

-- those of a chart
pub drawn_linked : (c : Chart) (drawn : Graph) → c.content ≡ HighLevel drawn → (name : List ℕ) → IsAmong (graph_names drawn) name → IsLinked (chart_links c) name
drawn_linked c drawn is name h = subst (λ (x : Content). IsLinked (used_links x (flat_map passage_links (chart_text c))) name) (sym is) (graph_linked 0 drawn name h)
