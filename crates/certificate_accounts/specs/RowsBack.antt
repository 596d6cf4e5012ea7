-- From an account of a loop in normal form to an account of the row that it was made of.
use Rattle.std.specs.Prelude.{ℕ, zero, suc, ◌==◌, Bool, true, false, List, [], ◌∷◌, length, Option, Some, None}
use Rattle.chart_term.specs.NormalForms.{cut_gaps, drop_nil, at_zero, live, is_nil, drop_free, thin, has_gap, begun}
use Rattle.chart_term.specs.Terms.{Tree, Nil, Event, Join, Choice, Tied, Loop, Walk, Part, Gap, Turn}
use Rattle.msc_base.specs.Patterns.{seq}
use Rattle.certificate_accounts.specs.Accounts.{Account, nothing, at_place, of_parts, of_branch, of_row, of_walk, Accounts, no_accounts, RowAccount, row_over, turns_in_gap, begun_turn}
use Rattle.certificate_accounts.specs.JoinsBack.{first_of, rest_of, parts_back}

-- what became of each part of a row: it is there, a gap is gone, a begun turn is over
pub data Mark : Type 0 where
  kept : Mark
  gone : Mark
  done : Mark

-- the account of the row, from that of what was kept of it
abbrev pub put_gap : RowAccount → (RowAccount → RowAccount) → RowAccount
put_gap row_over f = row_over
put_gap (turns_in_gap us b) f = turns_in_gap us (f b)
put_gap (begun_turn a b) f = begun_turn a (f b)

abbrev pub put_begun : RowAccount → (Account → Account) → (RowAccount → RowAccount) → RowAccount
put_begun row_over f g = row_over
put_begun (turns_in_gap us b) f g = turns_in_gap us (g b)
put_begun (begun_turn a b) f g = begun_turn (f a) (g b)

abbrev pub row_back : List Mark → RowAccount → RowAccount
row_back [] b = b
row_back (kept ∷ ms) b = put_gap b (row_back ms)
row_back (gone ∷ ms) b = turns_in_gap no_accounts (row_back ms b)
row_back (done ∷ ms) b = begun_turn nothing (row_back ms b)

-- the marks of each step of the normal form of a row
abbrev pub over_mark : Tree → Mark
over_mark Nil = done
over_mark (Event e) = kept
over_mark (Join m xs) = kept
over_mark (Choice xs) = kept
over_mark (Tied x q) = kept
over_mark (Loop x lo hi r) = kept
over_mark (Walk n s t c) = kept

abbrev pub over_marks : List Part → List Mark
over_marks [] = []
over_marks (Gap c ∷ ps) = kept ∷ over_marks ps
over_marks (Turn x ∷ ps) = over_mark x ∷ over_marks ps

abbrev pub all_kept : List Part → List Mark
all_kept [] = []
all_kept (p ∷ ps) = kept ∷ all_kept ps

abbrev pub gaps_gone : List Part → List Mark
gaps_gone [] = []
gaps_gone (Gap c ∷ ps) = gone ∷ gaps_gone ps
gaps_gone (Turn x ∷ ps) = kept ∷ gaps_gone ps

abbrev pub zero_marks : Option ℕ → List Part → List Mark
zero_marks None ps = all_kept ps
zero_marks (Some zero) ps = gaps_gone ps
zero_marks (Some (suc n)) ps = all_kept ps

abbrev pub live_mark : Option Tree → Mark
live_mark None = gone
live_mark (Some x) = kept

abbrev pub live_marks : (List ℕ → Option Tree) → List Part → List Mark
live_marks p [] = []
live_marks p (Gap c ∷ ps) = live_mark (p c) ∷ live_marks p ps
live_marks p (Turn x ∷ ps) = kept ∷ live_marks p ps

abbrev pub free_mark : Bool → Mark
free_mark true = gone
free_mark false = kept

abbrev pub free_marks : (List ℕ → Option Tree) → List Part → List Mark
free_marks p [] = []
free_marks p (Gap c ∷ ps) = free_mark (is_nil (p c)) ∷ free_marks p ps
free_marks p (Turn x ∷ ps) = kept ∷ free_marks p ps

-- a gap is gone where a gap is next to it
abbrev pub thin_mark : List Part → Mark
thin_mark [] = kept
thin_mark (Gap d ∷ ps) = gone
thin_mark (Turn x ∷ ps) = kept

abbrev pub thin_marks : List Part → List Mark
thin_marks [] = []
thin_marks (Gap c ∷ ps) = thin_mark (thin ps) ∷ thin_marks ps
thin_marks (Turn x ∷ ps) = kept ∷ thin_marks ps

-- the account of a row of which no turn is left but the begun ones, side by side
abbrev pub turns_row : List Part → Accounts → RowAccount
turns_row [] us = row_over
turns_row (Gap c ∷ ps) us = turns_in_gap no_accounts (turns_row ps us)
turns_row (Turn y ∷ ps) us = begun_turn (first_of us) (turns_row ps (rest_of us))

-- the account of a row without events
abbrev pub nothing_row : List Part → RowAccount
nothing_row [] = row_over
nothing_row (Gap c ∷ ps) = turns_in_gap no_accounts (nothing_row ps)
nothing_row (Turn y ∷ ps) = begun_turn nothing (nothing_row ps)

-- how many parts an account of a row is of
abbrev pub how_long : RowAccount → ℕ
how_long row_over = zero
how_long (turns_in_gap us b) = suc (how_long b)
how_long (begun_turn a b) = suc (how_long b)

-- the account where it is as long as the row, else one without events
abbrev pub where_fitting : Bool → List Part → RowAccount → RowAccount
where_fitting true ps b = b
where_fitting false ps b = nothing_row ps

-- the row in the account of a loop
abbrev pub row_in : List Part → Account → RowAccount
row_in ps nothing = nothing_row ps
row_in ps (at_place n) = nothing_row ps
row_in ps (of_parts us) = nothing_row ps
row_in ps (of_branch i a) = nothing_row ps
row_in ps (of_row b) = where_fitting (how_long b == length ps) ps b
row_in ps (of_walk v) = nothing_row ps

-- the account of the row of which a loop in normal form was made, that has this account
abbrev pub end_back : Bool → List Part → Account → RowAccount
end_back true ps a = row_in ps a
end_back false ps a = turns_row ps (parts_back seq (begun ps) a)

abbrev pub loop_back : (List ℕ → Option Tree) → List ℕ → Option ℕ → List Part → Account → RowAccount
loop_back p all hi ps a =
    let cs = cut_gaps all ps in
    let ns = drop_nil cs in
    let zs = at_zero hi ns in
    let qs = live p zs in
    let fs = drop_free p qs in
    let rs = thin fs in
    row_back (over_marks cs) (row_back (zero_marks hi ns) (row_back (live_marks p zs) (row_back (free_marks p qs) (row_back (thin_marks fs) (end_back (has_gap rs) rs a)))))
