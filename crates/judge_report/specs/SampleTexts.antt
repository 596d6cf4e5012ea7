-- What is printed of a sample whose log conforms.
use Rattle.std.specs.Prelude.{ℕ, ◌*◌, ◌-◌, List, [], ◌∷◌, ◌++◌, codes}
use Rattle.std.specs.Fmt.{decimal}

-- a sample of so many turns, of which so many are answered yes, in words: each turn has four events
abbrev pub sample_words : ℕ → ℕ → ℕ → List ℕ
sample_words turns yeses largest =
    codes "sample: turns " ++ (decimal turns ++ (codes ", yes " ++ (decimal yeses ++ (codes ", no " ++ (decimal (turns - yeses)
    ++ (codes ", events " ++ (decimal (4 * turns) ++ (codes ", largest weight " ++ (decimal largest ++ codes ", conforms")))))))))

-- its line
abbrev pub sample_line : ℕ → ℕ → ℕ → List ℕ
sample_line turns yeses largest = sample_words turns yeses largest ++ 10 ∷ []
