mod Answering
mod Beginning
mod Carrying
mod Committing
mod Ending
mod Fetching
mod Keeping
