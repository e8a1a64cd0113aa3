mod PrintedNumbers
mod Splits
mod PartTotals
mod FairTexts
