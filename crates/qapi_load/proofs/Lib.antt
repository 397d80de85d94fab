mod Folders
mod Given
mod Outcomes
