pub mod Sums
pub mod DeskSteps
pub mod LastView
pub mod TicketTasks
pub mod FromRule
pub mod DrawnTickets
pub mod ReportedPieces
pub mod WorkersEnd
