pub mod UnbegunLaws
