mod Gain
mod Queue
mod Reasons
mod Rounds
