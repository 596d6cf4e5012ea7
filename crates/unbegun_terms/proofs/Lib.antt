mod Kept
mod MadeUnbegun
mod UnbegunLaws
