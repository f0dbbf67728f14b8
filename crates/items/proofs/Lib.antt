mod Tests
mod Parts
