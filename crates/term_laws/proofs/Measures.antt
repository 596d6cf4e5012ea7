-- By what permission falls: the rank of a term over the tables.
use Rattle.std.specs.Prelude.{ℕ, zero, suc, ◌+◌, ◌<◌, ◌≤◌, List, [], ◌∷◌, ◌≡◌, Option, Some, refl, slice_get}
use Rattle.std.proofs.Common.{ap, arith}
use Rattle.msc_base.specs.Patterns.{Mode, seq, par}
use Rattle.chart_term.specs.Tables.{Tables}
use Rattle.chart_term.specs.Terms.{Tree, Join, Choice, Tied, Loop, trees, Part, Gap, Turn, row_of}
use Rattle.term_laws.proofs.Ranking.{rank, ranks, row_rank}
use Rattle.term_laws.proofs.TermSentences.{net_rank}

abbrev pub rank_in : Tables → Tree → ℕ
rank_in w x = rank (net_rank w) x

abbrev pub rank_all : Tables → List Tree → ℕ
rank_all w [] = 0
rank_all w (x ∷ xs) = rank_in w x + rank_all w xs

abbrev pub rank_part : Tables → Part → ℕ
rank_part w (Gap c) = 1
rank_part w (Turn x) = rank_in w x

abbrev pub rank_row : Tables → List Part → ℕ
rank_row w [] = 0
rank_row w (t ∷ ts) = rank_part w t + rank_row w ts

ranks-trees : (w : Tables) (xs : List Tree) → ranks (net_rank w) (trees xs) ≡ rank_all w xs
ranks-trees w [] = refl
ranks-trees w (x ∷ xs) = ap (λ n. rank_in w x + n) (ranks-trees w xs)

row_rank-row_of : (w : Tables) (ps : List Part) → row_rank (net_rank w) (row_of ps) ≡ rank_row w ps
row_rank-row_of w [] = refl
row_rank-row_of w (Gap c ∷ ps) = ap (λ n. 1 + n) (row_rank-row_of w ps)
row_rank-row_of w (Turn x ∷ ps) = ap (λ n. rank_in w x + n) (row_rank-row_of w ps)

pub rank-join : (w : Tables) (m : Mode) (xs : List Tree) → rank_in w (Join m (trees xs)) ≡ 1 + rank_all w xs
rank-join w m xs = ap (λ n. 1 + n) (ranks-trees w xs)

pub rank-choice : (w : Tables) (xs : List Tree) → rank_in w (Choice (trees xs)) ≡ 1 + rank_all w xs
rank-choice w xs = ap (λ n. 1 + n) (ranks-trees w xs)

pub rank-turns : (w : Tables) (x : Tree) (lo : ℕ) (hi : Option ℕ) (ps : List Part) → rank_in w (Loop x lo hi (row_of ps)) ≡ 1 + rank_in w x + rank_row w ps
rank-turns w x lo hi ps = ap (λ n. 1 + rank_in w x + n) (row_rank-row_of w ps)

-- for the terms that a look shows
pub rank-seq : (w : Tables) (x : Tree) (xs : List Tree) → x ≡ Join seq (trees xs) → rank_all w xs < rank_in w x
rank-seq w x xs e = rw e (omega (arith, rank-join w seq xs))

pub rank-par : (w : Tables) (x : Tree) (xs : List Tree) → x ≡ Join par (trees xs) → rank_all w xs < rank_in w x
rank-par w x xs e = rw e (omega (arith, rank-join w par xs))

pub rank-some : (w : Tables) (x : Tree) (xs : List Tree) → x ≡ Choice (trees xs) → rank_all w xs < rank_in w x
rank-some w x xs e = rw e (omega (arith, rank-choice w xs))

pub rank-tied : (w : Tables) (x y : Tree) (q : List (ℕ × ℕ)) → x ≡ Tied y q → rank_in w y < rank_in w x
rank-tied w x y q e = rw e (omega arith)

pub rank-loop : (w : Tables) (x y : Tree) (lo : ℕ) (hi : Option ℕ) (ps : List Part) → x ≡ Loop y lo hi (row_of ps) → rank_in w y + rank_row w ps < rank_in w x
rank-loop w x y lo hi ps e = rw e (omega (arith, rank-turns w y lo hi ps))

pub rank-at : (w : Tables) (xs : List Tree) (i : ℕ) (x : Tree) → slice_get xs i ≡ Some x → rank_in w x ≤ rank_all w xs
rank-at w [] i x h = cc
rank-at w (y ∷ ys) zero x h = let e : y ≡ x = cc in let f = ap (rank_in w) e in omega arith
rank-at w (y ∷ ys) (suc i) x h = omega (arith, rank-at w ys i x h)

pub rank-part : (w : Tables) (ps : List Part) (i : ℕ) (t : Part) → slice_get ps i ≡ Some t → rank_part w t ≤ rank_row w ps
rank-part w [] i t h = cc
rank-part w (y ∷ ys) zero t h = let e : y ≡ t = cc in let f = ap (rank_part w) e in omega arith
rank-part w (y ∷ ys) (suc i) t h = omega (arith, rank-part w ys i t h)
