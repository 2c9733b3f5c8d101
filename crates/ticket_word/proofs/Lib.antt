mod Telling
mod Changing
mod Answering
