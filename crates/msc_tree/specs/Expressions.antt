-- Reference expressions as plain trees (Z.120, clause 7.3).
use Rattle.std.specs.Prelude.{ℕ, List, [], ◌∷◌, Option}

mutual
  pub data Expression : Type 0 where
    -- nothing happens
    Empty : Expression
    -- the chart of this name
    Chart : List ℕ → Expression
    -- one of these; at least two
    Alt : Expressions → Expression
    -- all of these, side by side; at least two
    Par : Expressions → Expression
    -- all of these, one after another; at least two
    Seq : Expressions → Expression
    -- this, or nothing
    Opt : Expression → Expression
    -- this, as often as the two bounds say; the second may be missing
    Loop : ℕ → Option ℕ → Expression → Expression

  pub data Expressions : Type 0 where
    none : Expressions
    more : Expression → Expressions → Expressions

-- the expressions of a list
abbrev pub expressions : List Expression → Expressions
expressions [] = none
expressions (x ∷ xs) = more x (expressions xs)
