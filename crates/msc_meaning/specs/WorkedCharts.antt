-- Worked charts, each with its text in front: the tables that they are woven to.
use Rattle.std.specs.Prelude.{ℕ, List, [], ◌∷◌, Some, None, codes}
use Rattle.msc_base.specs.declared.label.Kind.TheVariants.{Create}
use Rattle.msc_base.specs.declared.label.LabelRef.{LabelRef}
use Rattle.msc_tree.specs.declared.event.RawEvent.{RawEvent}
use Rattle.msc_tree.specs.declared.event.Target.TheVariants.{Env, Instance, Gate}
use Rattle.msc_tree.specs.declared.reference.InlineForm.TheVariants.{Alt, Opt, Loop, Exc}
use Rattle.msc_tree.specs.declared.reference.Join.{Join}
use Rattle.msc_tree.specs.declared.reference.JoinEnd.TheVariants as join_end
use Rattle.msc_tree.specs.Expressions.{Chart, Seq, expressions}
use Rattle.msc_tree.specs.Graphs.{Lines, lines, line, Ends, Refer}
use Rattle.msc_tree.specs.Orders.{no_order, with_name}
use Rattle.msc_meaning.specs.Bodies.{EventNode, WovenItems, Single, Coregion, Inline, Body, level, items, bodies}
use Rattle.msc_meaning.specs.Tables.{Table}
use Rattle.msc_meaning.specs.WorkedParts.{node, out, taken_in, out_to, in_from, action, written, pair, decl, decomposed, part, refers, join, to, high_level, basic, somewhere}

abbrev pub a : List ℕ
a = codes "a"

abbrev pub b : List ℕ
b = codes "b"

abbrev pub d : List ℕ
d = codes "d"

abbrev pub e : List ℕ
e = codes "e"

abbrev pub g : List ℕ
g = codes "g"

abbrev pub h : List ℕ
h = codes "h"

abbrev pub i : List ℕ
i = codes "i"

abbrev pub j : List ℕ
j = codes "j"

abbrev pub k : List ℕ
k = codes "k"

abbrev pub m : List ℕ
m = codes "m"

abbrev pub n : List ℕ
n = codes "n"

abbrev pub p : List ℕ
p = codes "p"

abbrev pub q : List ℕ
q = codes "q"

abbrev pub x : List ℕ
x = codes "'x'"

abbrev pub y : List ℕ
y = codes "'y'"

-- ---- a message
-- msc A; inst i,j; i: out a to j; j: in a from i; endmsc;

abbrev pub message_body : Body
message_body = level (i ∷ j ∷ []) (items (Single (node 0 i (out a j)) ∷ Single (node 1 j (taken_in a i)) ∷ [])) (pair 0 1 ∷ [])

abbrev pub message : Table
message = basic (codes "A") (decl i ∷ decl j ∷ []) message_body ∷ []

-- ---- choices
-- msc C; inst i; i: alt begin; i: out a to env; i: out b to env; alt; i: out a to env; i: out c to env; alt end; endmsc;

abbrev pub alternatives_body : Body
alternatives_body = level (i ∷ []) (items (Inline Alt (part 1 (Some 1) None (i ∷ [])) (bodies (
    level (i ∷ []) (items (Single (node 0 i (out_to a (Env None))) ∷ Single (node 1 i (out_to b (Env None))) ∷ [])) []
    ∷ level (i ∷ []) (items (Single (node 2 i (out_to a (Env None))) ∷ Single (node 3 i (out_to (codes "c") (Env None))) ∷ [])) []
    ∷ [])) ∷ [])) []

abbrev pub alternatives : Table
alternatives = basic (codes "C") (decl i ∷ []) alternatives_body ∷ []

-- msc B; inst i,j; i,j: opt begin; i: out a to j; j: in a from i; opt end; endmsc;

abbrev pub option_body : Body
option_body = level (i ∷ j ∷ []) (items (Inline Opt (part 1 (Some 1) None (i ∷ j ∷ [])) (bodies (message_body ∷ [])) ∷ [])) []

abbrev pub option : Table
option = basic (codes "B") (decl i ∷ decl j ∷ []) option_body ∷ []

-- msc F; inst i,j; i: out a to j; j: in a from i; all: exc begin; i: out x to env; exc end; i: out b to j; j: in b from i; endmsc;

abbrev pub exception_body : Body
exception_body = level (i ∷ j ∷ []) (items (
    Single (node 0 i (out a j)) ∷ Single (node 1 j (taken_in a i))
    ∷ Inline Exc (part 1 (Some 1) None (i ∷ j ∷ [])) (bodies (level (i ∷ j ∷ []) (items (Single (node 2 i (out_to (codes "x") (Env None))) ∷ [])) [] ∷ []))
    ∷ Single (node 3 i (out b j)) ∷ Single (node 4 j (taken_in b i))
    ∷ [])) (pair 0 1 ∷ pair 3 4 ∷ [])

abbrev pub exception : Table
exception = basic (codes "F") (decl i ∷ decl j ∷ []) exception_body ∷ []

-- ---- repetition
-- msc D; inst i,j; i,j: loop <2,2> begin; i: out a to j; j: in a from i; loop end; endmsc;

abbrev pub twice_body : Body
twice_body = level (i ∷ j ∷ []) (items (Inline Loop (part 2 (Some 2) None (i ∷ j ∷ [])) (bodies (message_body ∷ [])) ∷ [])) []

abbrev pub twice : Table
twice = basic (codes "D") (decl i ∷ decl j ∷ []) twice_body ∷ []

-- the chart of a message, and msc S; inst i,j; all: reference A seq A; endmsc;

abbrev pub referred_body : Body
referred_body = level (i ∷ j ∷ []) (items (refers None (Seq (expressions (Chart (codes "A") ∷ Chart (codes "A") ∷ []))) [] (i ∷ j ∷ []) ∷ [])) []

abbrev pub referred : Table
referred = basic (codes "S") (decl i ∷ decl j ∷ []) referred_body ∷ message

-- ---- a coregion, and a creation
-- msc G; inst i,j; i: out a to j; out b to j; j: concurrent; label p; in a from i; in b from i after p; endconcurrent; endmsc;

abbrev pub labelled_in : RawEvent
labelled_in = record (taken_in a i) { order = with_name (Some p) no_order }

abbrev pub in_after : RawEvent
in_after = record (taken_in b i) { order = record no_order { later_than = p ∷ [] } }

abbrev pub concurrent_body : Body
concurrent_body = level (i ∷ j ∷ []) (items (
    Single (node 0 i (out a j)) ∷ Single (node 1 i (out b j)) ∷ Coregion (node 2 j labelled_in ∷ node 3 j in_after ∷ []) ∷ []))
    (pair 0 2 ∷ pair 1 3 ∷ [])

abbrev pub concurrent : Table
concurrent = basic (codes "G") (decl i ∷ decl j ∷ []) concurrent_body ∷ []

-- msc A; inst i,k; i: create k; k: action 'x'; k: stop; endmsc;

abbrev pub creation_body : Body
creation_body = level (i ∷ k ∷ []) (items (Single (node 0 i (written Create k (Instance k))) ∷ Single (node 1 k (action x)) ∷ [])) []

abbrev pub creation : Table
creation = basic (codes "A") (decl i ∷ decl k ∷ []) creation_body ∷ []

-- ---- gates
-- msc B; inst k; k: in m from env via g; endmsc;
-- msc A; inst i,k; i: out m to reference R via g; k: reference R: B; endmsc;

abbrev pub gate_in : EventNode
gate_in = node 0 k (in_from m (Env (Some g)))

abbrev pub gate_body : Body
gate_body = level (k ∷ []) (items (Single gate_in ∷ [])) []

abbrev pub gate_items : WovenItems
gate_items = items (Single (node 0 i (out_to m (Gate (codes "R") g))) ∷ refers (Some (codes "R")) (Chart (codes "B")) [] (k ∷ []) ∷ [])

abbrev pub gate_of_reference : Table
gate_of_reference = basic (codes "B") (decl k ∷ []) gate_body ∷ basic (codes "A") (decl i ∷ decl k ∷ []) (level (i ∷ k ∷ []) gate_items []) ∷ []

-- msc C; inst k; k: in m from env via g; endmsc;
-- msc B; inst k; k: reference S: C via g to env via h; endmsc;
-- msc A; inst i,k; i: out m to reference R via h; k: reference R: B; endmsc;

abbrev pub passing_joins : List Join
passing_joins = join g (join_end.Env h) ∷ []

abbrev pub passing_items : WovenItems
passing_items = items (refers (Some (codes "S")) (Chart (codes "C")) passing_joins (k ∷ []) ∷ [])

abbrev pub passing_body : Body
passing_body = level (k ∷ []) passing_items []

abbrev pub outer_items : WovenItems
outer_items = items (Single (node 0 i (out_to m (Gate (codes "R") h))) ∷ refers (Some (codes "R")) (Chart (codes "B")) [] (k ∷ []) ∷ [])

abbrev pub gate_through_levels : Table
gate_through_levels = basic (codes "C") (decl k ∷ []) gate_body ∷ basic (codes "B") (decl k ∷ []) passing_body
    ∷ basic (codes "A") (decl i ∷ decl k ∷ []) (level (i ∷ k ∷ []) outer_items []) ∷ []

-- msc P; inst p; p: out m to env via g; endmsc;
-- msc Q; inst q; q: in m from env via h; endmsc;
-- msc A; inst p,q; p: reference R: P via g to reference S via h; q: reference S: Q; endmsc;

abbrev pub gate_out : EventNode
gate_out = node 0 p (out_to m (Env (Some g)))

abbrev pub gate_in_q : EventNode
gate_in_q = node 0 q (in_from m (Env (Some h)))

abbrev pub out_body : Body
out_body = level (p ∷ []) (items (Single gate_out ∷ [])) []

abbrev pub in_body : Body
in_body = level (q ∷ []) (items (Single gate_in_q ∷ [])) []

abbrev pub joins_of_r : List Join
joins_of_r = join g (join_end.Reference (codes "S") h) ∷ []

abbrev pub joined_items : WovenItems
joined_items = items (refers (Some (codes "R")) (Chart (codes "P")) joins_of_r (p ∷ []) ∷ refers (Some (codes "S")) (Chart (codes "Q")) [] (q ∷ []) ∷ [])

abbrev pub gates_joined : Table
gates_joined = basic (codes "P") (decl p ∷ []) out_body ∷ basic (codes "Q") (decl q ∷ []) in_body
    ∷ basic (codes "A") (decl p ∷ decl q ∷ []) (level (p ∷ q ∷ []) joined_items []) ∷ []

-- msc A; inst i,k; i: out m to reference X via g; k: alt begin X; k: in m from env via g; alt; k: action 'x'; alt end; endmsc;

abbrev pub inner_in : EventNode
inner_in = node 1 k (in_from m (Env (Some g)))

abbrev pub with_gate : Body
with_gate = level (k ∷ []) (items (Single inner_in ∷ [])) []

abbrev pub without_gate : Body
without_gate = level (k ∷ []) (items (Single (node 2 k (action x)) ∷ [])) []

abbrev pub inline_items : WovenItems
inline_items = items (Single (node 0 i (out_to m (Gate (codes "X") g)))
    ∷ Inline Alt (part 1 (Some 1) (Some (codes "X")) (k ∷ [])) (bodies (with_gate ∷ without_gate ∷ [])) ∷ [])

abbrev pub gate_of_inline : Table
gate_of_inline = basic (codes "A") (decl i ∷ decl k ∷ []) (level (i ∷ k ∷ []) inline_items []) ∷ []

-- ---- decomposition
-- msc D; inst d,e; e: out n to d; d: in n from e; in m from env; endmsc;
-- msc A; instance i decomposed as D; in m from j; endinstance; instance j; out m to i; endinstance; endmsc;

abbrev pub refining_body : Body
refining_body = level (d ∷ e ∷ []) (items (Single (node 0 e (out n d)) ∷ Single (node 1 d (taken_in n e)) ∷ Single (node 2 d (in_from m (Env None))) ∷ [])) (pair 0 1 ∷ [])

abbrev pub refined_body : Body
refined_body = level (i ∷ j ∷ []) (items (Single (node 0 i (taken_in m j)) ∷ Single (node 1 j (out m i)) ∷ [])) (pair 1 0 ∷ [])

abbrev pub refined : Table
refined = basic (codes "D") (decl d ∷ decl e ∷ []) refining_body ∷ basic (codes "A") (decomposed i (codes "D") ∷ decl j ∷ []) refined_body ∷ []

-- msc D; inst d; d: out m to env; out m to env; endmsc;
-- msc E; inst e; e: in m from env; in m from env; endmsc;
-- msc A; instance i decomposed as D; out m to j; out m to j; endinstance; instance j decomposed as E; in m from i; in m from i; endinstance; endmsc;

abbrev pub both_body : Body
both_body = level (i ∷ j ∷ []) (items (
    Single (node 0 i (out m j)) ∷ Single (node 1 i (out m j)) ∷ Single (node 2 j (taken_in m i)) ∷ Single (node 3 j (taken_in m i)) ∷ [])) (pair 0 2 ∷ pair 1 3 ∷ [])

abbrev pub both_refined : Table
both_refined = basic (codes "D") (decl d ∷ []) (level (d ∷ []) (items (Single (node 0 d (out_to m (Env None))) ∷ Single (node 1 d (out_to m (Env None))) ∷ [])) [])
    ∷ basic (codes "E") (decl e ∷ []) (level (e ∷ []) (items (Single (node 0 e (in_from m (Env None))) ∷ Single (node 1 e (in_from m (Env None))) ∷ [])) [])
    ∷ basic (codes "A") (decomposed i (codes "D") ∷ decomposed j (codes "E") ∷ []) both_body ∷ []

-- ---- graphs
-- the chart of a message, and msc H; expr L1; L1: (A) seq (L1); endmsc;

abbrev pub endless_starts : List LabelRef
endless_starts = to (codes "L1") ∷ []

abbrev pub endless_lines : Lines
endless_lines = lines (line (codes "L1") somewhere (Refer (Chart (codes "A"))) endless_starts ∷ [])

abbrev pub endless : Table
endless = high_level (codes "H") endless_starts endless_lines ∷ message

-- msc P; inst p; p: action 'x'; endmsc; msc Q; inst q; q: action 'y'; endmsc;
-- msc K; expr L1; L1: (P) seq (L2); L2: (Q) seq (L3); L3: end; endmsc;

abbrev pub p_body : Body
p_body = level (p ∷ []) (items (Single (node 0 p (action x)) ∷ [])) []

abbrev pub q_body : Body
q_body = level (q ∷ []) (items (Single (node 0 q (action y)) ∷ [])) []

abbrev pub node_lines : Lines
node_lines = lines (line (codes "L1") somewhere (Refer (Chart (codes "P"))) (to (codes "L2") ∷ [])
    ∷ line (codes "L2") somewhere (Refer (Chart (codes "Q"))) (to (codes "L3") ∷ [])
    ∷ line (codes "L3") somewhere Ends [] ∷ [])

abbrev pub two_nodes : Table
two_nodes = basic (codes "P") (decl p ∷ []) p_body
    ∷ basic (codes "Q") (decl q ∷ []) q_body
    ∷ high_level (codes "K") (to (codes "L1") ∷ []) node_lines
    ∷ []
