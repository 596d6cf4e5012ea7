mod AlikeUnfoldings
mod FarEndLaws
mod WorkedChoices
