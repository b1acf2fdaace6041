mod Steps
mod Then
