-- How the charts of a document, and the instances of a chart, are listed.
use Rattle.std.specs.Prelude.{ℕ, Bool, true, false, List, [], ◌∷◌, ◌++◌, length, map, flat_map, codes, Option, Some, None}
use Rattle.std.specs.Fmt.{decimal}
use Rattle.serde_json.specs.Data.{Data, number, unsigned, string, array, object, member, no_members}
use Rattle.serde_json.specs.View.{items_of}
use Rattle.msc_tree.specs.declared.chart.Decl.{Decl}
use Rattle.chart_lists.specs.Listing.{is_graph_of, listed_of}
use Rattle.msc_meaning.specs.Tables.{ChartEntry, Table}

abbrev pub kind_word : Bool → List ℕ
kind_word false = codes "basic"
kind_word true = codes "graph"

-- ---- in words: a line for each

-- the name, the kind, and how many instances are listed
abbrev pub chart_line : Table → ChartEntry → List ℕ
chart_line table c = c.name ++ (codes " " ++ (kind_word (is_graph_of c) ++ (codes " " ++ (decimal (length (listed_of table c)) ++ 10 ∷ []))))

abbrev pub refined_words : Option (List ℕ) → List ℕ
refined_words None = []
refined_words (Some chart) = codes " decomposed as " ++ chart

-- the name, and the chart that refines the instance
abbrev pub instance_line : Decl → List ℕ
instance_line d = d.name ++ (refined_words d.refined ++ 10 ∷ [])

-- ---- as JSON: an object with an array

-- with a comma between each two
abbrev pub separated : List (List ℕ) → List ℕ
separated [] = []
separated (text ∷ []) = text
separated (text ∷ next ∷ more) = text ++ 44 ∷ separated (next ∷ more)

abbrev pub chart_json : Table → ChartEntry → List ℕ
chart_json table c = codes "{\"instances\":" ++ (decimal (length (listed_of table c)) ++ (codes ",\"kind\":\"" ++ (kind_word (is_graph_of c) ++ (codes "\",\"name\":\"" ++ (c.name ++ codes "\"}")))))

abbrev pub instance_json : Decl → List ℕ
instance_json d = 34 ∷ (d.name ++ 34 ∷ [])

-- ---- the texts

-- the charts of an accepted document, in the order of the text
abbrev pub chart_list : Bool → Table → List ℕ
chart_list false charts = flat_map (chart_line charts) charts
chart_list true charts = codes "{\"charts\":[" ++ (separated (map (chart_json charts) charts) ++ codes "]}\n")

-- the listed instances of a chart; as JSON their names alone
abbrev pub instance_list : Bool → List Decl → List ℕ
instance_list false listed = flat_map instance_line listed
instance_list true listed = codes "{\"instances\":[" ++ (separated (map instance_json listed) ++ codes "]}\n")

-- ---- the objects, as data

abbrev pub chart_data : Table → ChartEntry → Data
chart_data table c =
    object (member (codes "instances") (number (unsigned (length (listed_of table c)))) (member (codes "kind") (string (kind_word (is_graph_of c))) (member (codes "name") (string c.name) no_members)))

abbrev pub instance_data : Decl → Data
instance_data d = string d.name

-- an object of one member, which is an array
abbrev pub array_data : List ℕ → List Data → Data
array_data key held = object (member key (array (items_of held)) no_members)
