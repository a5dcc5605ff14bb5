mod Played
mod Running
mod Told
