mod FirstFound
mod OneText
mod OpenPrefixes
mod PathLists
mod RoomTests
mod WalkSteps
mod WholeDivisions
