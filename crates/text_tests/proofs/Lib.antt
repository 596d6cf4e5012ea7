mod TestFacts
