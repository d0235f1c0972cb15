mod Complete
mod Fault
mod Both
mod Either
mod Reading
mod Sound
