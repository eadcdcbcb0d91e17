-- What a bound's answer admits. In the order in which it is read: what clauses mean, what the tree counts, what a refinement keeps, what calls
-- lead to; what an answer promises, what is known of a build, of one input, of the lines that a start is handed; what lines of one literal weigh
-- together; where each input stands; calls over lent words, what memory shows of a build, the promise over words, the totals that are reported.
-- What is proved of these last ones stands in proofs/.
pub mod Meaning
pub mod Counting
pub mod Refinement
pub mod Histories
pub mod Promise
pub mod Answers
pub mod Answered
pub mod Single
pub mod Demand3
pub mod Lines
pub mod Standing
pub mod Calls
pub mod Words
pub mod Admitted
pub mod Totals
pub mod Starting
